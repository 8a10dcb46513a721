pub mod BegunLemmas
pub mod RisingLemmas
pub mod SeenLemmas
pub mod TestLemmas
pub mod WalkLemmas
