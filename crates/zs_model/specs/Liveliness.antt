-- Liveliness: the tables of it, and what the application declares.
use Rattle.std.specs.Prelude.{ℕ, List, [], ◌∷◌, Option, Some}
use Rattle.zs_keys.specs.Key.{undeclared}
use Rattle.zs_events.specs.declared.event.Event.{Event}
use Rattle.zs_events.specs.declared.event.Event.TheVariants.{Token, Lsub}
use Rattle.zs_tables.specs.Types.{LivelinessSub, LivelinessGet, RemoteToken}

-- the tables: the live tokens of this session, the live subscribers to liveliness, those of them that were left to themselves, the
-- tokens that the network told, and the open gets of tokens
pub record Liveliness : Type 0 where
  pub tokens : List ℕ
  pub subs : List LivelinessSub
  pub left : List ℕ
  pub remote_tokens : List RemoteToken
  pub gets : List LivelinessGet

abbrev pub no_liveliness : Liveliness
no_liveliness = record { tokens = []; subs = []; left = []; remote_tokens = []; gets = [] }

-- what a close leaves of them
abbrev pub shut_liveliness : Liveliness → Liveliness
shut_liveliness l = record l { tokens = []; subs = []; gets = [] }

-- the token that an event declares, and the subscriber, given the number that it drew and the text of its key
abbrev pub token_row : Event → Option ℕ → Option (List ℕ) → List ℕ
token_row (Token key) (Some number) text = number ∷ []
token_row e number text = []

abbrev pub lsub_row : Event → Option ℕ → Option (List ℕ) → List LivelinessSub
lsub_row (Lsub history key) (Some number) (Some text) = record { id = number; history = history; key = undeclared text } ∷ []
lsub_row e number text = []
