-- What the computed lists are, in words that don't retrace how they are computed.
use Rattle.std.specs.Prelude.{◌≡◌, ℕ, List, All, Contains, IsTrue}
use Rattle.pk_values.specs.ColumnSet.{IsColumnSet}
use Rattle.pk_transversal.specs.Minimal.{IsMinimal, Lists, minimal_of}
use Rattle.pk_transversal.specs.Transversals.{meets_all, transversals, edge_limit}

-- x is a set of columns that meets every edge
abbrev pub MeetsAll : List ℕ → ℕ → Type 0
MeetsAll edges x = IsColumnSet x × IsTrue (meets_all edges x)

-- `minimal_of` lists the minimal sets among those that are given.
abbrev pub MinimalSetsAreListed : Type 0
MinimalSetsAreListed = (sets : List ℕ) → Lists (IsMinimal (Contains sets)) (minimal_of sets)

-- `transversals` lists the minimal sets, among all sets of columns, that meet every edge.
abbrev pub TransversalsAreListed : Type 0
TransversalsAreListed = (edges : List ℕ) → All IsColumnSet edges → Lists (IsMinimal (MeetsAll edges)) (transversals edges)

-- The minimal edges have the same minimal transversals as all edges.
abbrev pub MinimalEdgesSayTheSame : Type 0
MinimalEdgesSayTheSame = (edges : List ℕ) → All IsColumnSet edges → transversals (minimal_of edges) ≡ transversals edges

-- There is one list of them.
abbrev pub OneListOfTransversals : Type 0
OneListOfTransversals = (edges sets : List ℕ) → All IsColumnSet edges → Lists (IsMinimal (MeetsAll edges)) sets → sets ≡ transversals edges

-- the two lists have the same members
abbrev pub HaveTheSame : List ℕ → List ℕ → Type 0
HaveTheSame xs ys = ((x : ℕ) → Contains xs x → Contains ys x) × ((x : ℕ) → Contains ys x → Contains xs x)

-- It tells nothing in which order edges stand, and whether one stands twice.
pub record OrderTellsNothing : Type 0 where
  pub minimal : (xs ys : List ℕ) → HaveTheSame xs ys → minimal_of xs ≡ minimal_of ys
  pub sets : (xs ys : List ℕ) → All IsColumnSet xs → All IsColumnSet ys → HaveTheSame xs ys → transversals xs ≡ transversals ys
  pub limit : (most : ℕ) (xs ys : List ℕ) → HaveTheSame xs ys → edge_limit most xs ≡ edge_limit most ys
