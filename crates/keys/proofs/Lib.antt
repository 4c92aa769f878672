pub mod Lexical
pub mod Making
pub mod SortedLemmas
pub mod Lists
