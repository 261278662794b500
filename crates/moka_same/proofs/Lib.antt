pub mod Deciding
pub mod Same
pub mod Quiet
pub mod Retiring
pub mod Seeking
pub mod Polls
pub mod Runs
