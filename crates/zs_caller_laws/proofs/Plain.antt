-- Calls of which nothing else is said have lines without options.
use Rattle.std.proofs.Common.{refl}
use Rattle.std.specs.Str.{chars}
use Rattle.zs_printing.specs.Pieces.{written}
use Rattle.zs_event_lines.specs.Shown.{shown}
use Rattle.zs_caller_laws.specs.Lines.{CallsHaveLines, EntitiesHaveLines, CallsAreLines}

calls : (H : Type 0) → CallsHaveLines H
unfolding shown written chars lib.Utf8.encode
calls H = record {
  put = λ s k bytes. refl;
  delete = λ s k. refl;
  publisher_put = λ s id bytes. refl;
  publisher_delete = λ s id. refl;
  get = λ s selector. refl;
  querier_get = λ s id. refl;
  reply = λ q s k bytes. refl;
  reply_delete = λ q s k. refl;
  reply_err = λ q s bytes. refl;
}

entities : (H : Type 0) → EntitiesHaveLines H
unfolding shown lib.Utf8.encode
entities H = record {
  subscriber = λ s k. refl;
  publisher = λ s k. refl;
  queryable = λ s k. refl;
  querier = λ s k. refl;
  listener = λ s parent id. refl;
  token = λ s k. refl;
  liveliness_subscriber = λ s k. refl;
  liveliness_get = λ s k. refl;
}

pub lines_are : (H : Type 0) → CallsAreLines H
lines_are H = record { calls = calls H; entities = entities H }
