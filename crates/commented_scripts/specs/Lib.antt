pub mod CommentedScript
