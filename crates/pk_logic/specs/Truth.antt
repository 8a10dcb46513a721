-- The three truth values, in the order false, unknown, true.
use Rattle.std.specs.Prelude.{Bool, true, false, List, [], ◌∷◌}
use Rattle.pk_logic.specs.declared.truth.Truth.{Truth}
use Rattle.pk_logic.specs.declared.truth.Truth.TheVariants.{False, Unknown, True}

-- what is known to hold is true, and what is known not to is false
abbrev pub truth_of : Bool → Truth
truth_of true = True
truth_of false = False

-- NOT: exchanges false and true
abbrev pub opposite : Truth → Truth
opposite False = True
opposite Unknown = Unknown
opposite True = False

-- the lesser of two
abbrev pub lesser : Truth → Truth → Truth
lesser False b = False
lesser Unknown False = False
lesser Unknown Unknown = Unknown
lesser Unknown True = Unknown
lesser True b = b

-- the greater of two
abbrev pub greater : Truth → Truth → Truth
greater False b = b
greater Unknown False = Unknown
greater Unknown Unknown = Unknown
greater Unknown True = True
greater True b = True

-- AND: the least of all, and true of none
abbrev pub least : List Truth → Truth
least [] = True
least (t ∷ ts) = lesser t (least ts)

-- OR: the greatest of all, and false of none
abbrev pub greatest : List Truth → Truth
greatest [] = False
greatest (t ∷ ts) = greater t (greatest ts)
