-- What clauses see of a queue.
use Rattle.std.specs.Prelude.{ℕ, Bool, List, refl}
use Rattle.std.specs.Coded.{Coded, code_by, coded×, coded_list, coded_ℕ, coded_bool}

-- the items, the first to come first, how many there may be, and whether the callback has ended
pub record Queue (T : Type 0) : Type 0 where
  pub items : List T
  pub capacity : ℕ
  pub ended : Bool

module _ {T : Type 0} where
  abbrev pub queue : List T → ℕ → Bool → Queue T
  queue items capacity ended = record { items = items; capacity = capacity; ended = ended }

  abbrev pub queue_code : Coded T → Coded (Queue T)
  queue_code c = code_by (List T × (ℕ × Bool)) (coded× (coded_list c) (coded× coded_ℕ coded_bool)) (λ q. (q.items, (q.capacity, q.ended))) (λ p. queue p.0 p.1.0 p.1.1) (λ _. refl)
