-- What a broker does by itself
pub mod Alone
pub mod ServedViews
