-- AND and OR as operations on truth values.
use Rattle.std.proofs.Common.{◌≡◌, refl}
use Rattle.pk_logic.specs.declared.truth.Truth.{Truth}
use Rattle.pk_logic.specs.declared.truth.Truth.TheVariants.{False, Unknown, True}
use Rattle.pk_logic.specs.Truth.{lesser, greater}

pub lesser_assoc : (a b c : Truth) → lesser (lesser a b) c ≡ lesser a (lesser b c)
lesser_assoc False b c = refl
lesser_assoc True b c = refl
lesser_assoc Unknown False c = refl
lesser_assoc Unknown True c = refl
lesser_assoc Unknown Unknown False = refl
lesser_assoc Unknown Unknown Unknown = refl
lesser_assoc Unknown Unknown True = refl

pub greater_assoc : (a b c : Truth) → greater (greater a b) c ≡ greater a (greater b c)
greater_assoc True b c = refl
greater_assoc False b c = refl
greater_assoc Unknown True c = refl
greater_assoc Unknown False c = refl
greater_assoc Unknown Unknown False = refl
greater_assoc Unknown Unknown Unknown = refl
greater_assoc Unknown Unknown True = refl

-- nothing is less than false
pub lesser_false : (a : Truth) → lesser a False ≡ False
lesser_false False = refl
lesser_false Unknown = refl
lesser_false True = refl

-- true is no less than anything
pub lesser_true : (a : Truth) → lesser a True ≡ a
lesser_true False = refl
lesser_true Unknown = refl
lesser_true True = refl

pub greater_true : (a : Truth) → greater a True ≡ True
greater_true False = refl
greater_true Unknown = refl
greater_true True = refl

pub greater_false : (a : Truth) → greater a False ≡ a
greater_false False = refl
greater_false Unknown = refl
greater_false True = refl
