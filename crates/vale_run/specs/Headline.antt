-- What the top call promises, whatever the words, the files and the outside are.
use Rattle.std.specs.Prelude.{ℕ, ◌≡◌, List}
use Rattle.vale_deliver.specs.Delivered.{Delivered, no_memory}
use Rattle.vale_deliver.specs.Outside.{Outside, KeepsCounts}
use Rattle.vale_deliver.specs.declared.answer.Answer.{Answer}
use Rattle.vale_run.specs.Causes.{ReadFails, LacksPages}
use Rattle.vale_run.specs.Owed.{Owes, PrintsFront, read_fault, no_page}
use Rattle.vale_words.specs.FirstFault.{Word}

-- the answers that may come, each with its cause; want of memory alone has none
pub data Comes (words : List Word) (old new : Outside) (a : Answer) : Type 0 where
  owed : Owes words old new a → Comes words old new a
  wants_page : (frames : ℕ) (out : List ℕ) → LacksPages words old frames → PrintsFront words old new out → a ≡ no_page frames out → Comes words old new a
  no_read : ReadFails words old new → a ≡ read_fault → Comes words old new a
  wants_memory : (out : List ℕ) → PrintsFront words old new out → a ≡ no_memory out → Comes words old new a

-- The words are answered with this status: an answer that may come was delivered, and no count of faults fell.
pub record Answers (words : List Word) (old new : Outside) (status : ℕ) : Type 0 where
  pub answer : Answer
  pub comes : Comes words old new answer
  pub delivered : Delivered answer status old new
  pub counts : KeepsCounts old new
