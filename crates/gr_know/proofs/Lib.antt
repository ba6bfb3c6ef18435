pub mod ValueLaws
pub mod KnowLemmas
pub mod ForgetLemmas
pub mod DataBelow
pub mod Lowering
pub mod Walks
pub mod Counting
pub mod Held
