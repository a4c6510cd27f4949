-- Laws of the definitions.
pub mod DialogueLaws
pub mod FeedLaws
