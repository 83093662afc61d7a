pub mod Grammar
pub mod Parser
pub mod inner
