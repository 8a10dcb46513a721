use Rattle.std.specs.Prelude.{◌≡◌, true, false, length, codes}
use Rattle.pk_syntax.specs.Words.{reserved, is_reserved}

-- Which words are reserved, computed.
pub record WordsAtTheirEdges : Type 0 where
  pub number : length reserved ≡ 52
  pub shortest : is_reserved (codes "by") ≡ true
  pub longest : is_reserved (codes "serializable") ≡ true
  pub front : is_reserved (codes "serializ") ≡ false
  pub longer : is_reserved (codes "keyes") ≡ false
  pub capitals : is_reserved (codes "KEY") ≡ false
  pub nothing : is_reserved (codes "") ≡ false
