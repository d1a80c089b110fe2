pub mod CallLaws
pub mod WrittenLaws
