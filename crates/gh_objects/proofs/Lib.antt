pub mod CountsLemmas
pub mod KindsLemmas
pub mod ListLemmas
pub mod NamesLemmas
pub mod ObjectsLemmas
pub mod PartitionsLemmas
pub mod RisingLemmas
pub mod TableLemmas
