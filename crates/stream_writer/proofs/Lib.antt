pub mod BlobLemmas
pub mod HeadLemmas
pub mod MarkLemmas
pub mod SendingLemmas
