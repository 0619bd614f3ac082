-- The number of each refusal.
use Rattle.std.specs.Prelude.{ℕ}
use Rattle.stamps.specs.declared.refusal.Refusal.TheVariants.{UnknownWord, FieldCount, FieldForm, OutOfRange, HeadingPlace, WorkloadTooLong, BufferSpent, SaleOpen, NoSale, CounterSpent, CauseNotOlder, DeliveriesFull, TailFull}
use Rattle.stamps.specs.declared.refusal.Refusal.{Refusal}

-- the number that an answer line prints for a refusal
abbrev pub number : Refusal → ℕ
number UnknownWord = 11
number FieldCount = 12
number FieldForm = 13
number OutOfRange = 14
number HeadingPlace = 15
number WorkloadTooLong = 17
number BufferSpent = 18
number SaleOpen = 21
number NoSale = 22
number CounterSpent = 23
number CauseNotOlder = 24
number DeliveriesFull = 32
number TailFull = 33
