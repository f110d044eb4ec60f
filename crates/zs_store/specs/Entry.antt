-- What stands at a key, and which of two entries is the newer one.
use Rattle.std.specs.Prelude.{ℕ, Bool, List, ◌∷◌, Option, None, Some, if◌then◌else◌}
use Rattle.std.specs.Ordering.{nat_cmp, is_lt}
use Rattle.std.specs.declared.cmp.Ordering.{Ordering}
use Rattle.std.specs.Cmp.Lexicographic.{slice_cmp}
use Rattle.zs_bytes.specs.Payload.{bytes_of}
use Rattle.zs_wire.specs.declared.origin.Timestamp.{Timestamp}
use Rattle.zs_wire.specs.declared.sample_kind.SampleKind.{SampleKind}
use Rattle.zs_wire.specs.declared.sample_kind.SampleKind.TheVariants.{Put, Delete}
use Rattle.zs_store.specs.declared.entry.Entry.{Entry}

-- what was done, the bytes of the payload, and when
pub record EntrySeen : Type 0 where
  pub kind : SampleKind
  pub bytes : List ℕ
  pub timestamp : Timestamp

-- an entry with the bytes of its payload, whatever slices they lie in
abbrev pub seen : Entry → EntrySeen
seen entry = record { kind = entry.kind; bytes = bytes_of entry.payload; timestamp = entry.timestamp }

-- a put comes before a deletion
abbrev pub kind_rank : SampleKind → ℕ
kind_rank Put = 0
kind_rank Delete = 1

-- what tells the order of entries: the time, the clock's id, the kind, and then the bytes
abbrev pub rank : EntrySeen → List ℕ
rank e = e.timestamp.time ∷ e.timestamp.id ∷ kind_rank e.kind ∷ e.bytes

abbrev pub entry_order : EntrySeen → EntrySeen → Ordering
entry_order a b = slice_cmp nat_cmp (rank a) (rank b)

abbrev pub is_below : EntrySeen → EntrySeen → Bool
is_below a b = is_lt (entry_order a b)

-- the newer of two entries
abbrev pub greater : EntrySeen → EntrySeen → EntrySeen
greater a b = if is_below a b then b else a

abbrev pub greatest : EntrySeen → Option EntrySeen → Option EntrySeen
greatest a None = Some a
greatest a (Some b) = Some (greater a b)
