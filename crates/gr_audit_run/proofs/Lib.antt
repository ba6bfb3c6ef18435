-- Lemmas on the processes of an audit
pub mod Start
pub mod Runs
pub mod Hosted
pub mod Taking
pub mod Going
pub mod Pieces
