-- The reply of each command to its input.
pub mod Errors
pub mod BtfReply
pub mod Reply
pub mod Pieces
