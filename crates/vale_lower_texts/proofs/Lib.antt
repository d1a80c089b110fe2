pub mod QuoteLaws
