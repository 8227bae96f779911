mod Nearer
mod Meaning
mod Replies
pub mod Names
mod LinkLaws
mod LinkReplies
