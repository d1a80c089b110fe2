pub mod AfterLaws
pub mod ChangeLaws
pub mod ComeLaws
