pub mod Bodies
pub mod Cuts
pub mod Results
pub mod Ruled
