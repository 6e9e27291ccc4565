pub mod Stages
pub mod Books
pub mod Results
pub mod View
pub mod Computing
