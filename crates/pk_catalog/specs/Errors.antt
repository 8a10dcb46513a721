-- What an error says.
use Rattle.std.specs.Prelude.{ℕ, List, codes}
use Rattle.pk_catalog.specs.declared.cat_err.CatErr.{CatErr}
use Rattle.pk_catalog.specs.declared.cat_err.CatErr.TheVariants.{Bad, Memory}

abbrev pub error_text : CatErr → List ℕ
error_text Bad = codes "no such record"
error_text Memory = codes "out of memory"
