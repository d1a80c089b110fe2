pub mod CompareLaws
