pub mod CallLists
pub mod LentHeap
pub mod Teams
