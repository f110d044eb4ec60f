-- What a poll leaves behind.
use Rattle.std.specs.Prelude.{◌≡◌, true, ◌⊎◌, IsSomeAnd, Option}
use Rattle.futures.specs.Task.{Wakes}
use Rattle.futures.specs.declared.task.context.Context.{Context}
use Rattle.futures.specs.declared.task.waker.Waker.{Waker}

-- the slot has the waker of the task that is polled, unless there was no memory for one and the task asked to be polled again
abbrev pub IsLeftIn : Context → Context → Option Waker → Type 0
IsLeftIn old new slot = (new.lacks_waker ≡ true) ⊎ IsSomeAnd slot (λ waker. Wakes waker old)
