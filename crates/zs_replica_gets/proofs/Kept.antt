-- What is kept of the replies from two stores: the newest at each key.
use Rattle.std.proofs.Common.{◌≡◌, inl, inr, ℕ, List, [], ◌∷◌, Bool, true, false, Option, Some, None, refl, sym, ◌∙◌, ap, cond, true≢false}
use Rattle.std.specs.Prelude.{◌&&◌, ◌||◌, not, bytes_eq, if◌then◌else◌}
use Rattle.std.specs.List.{list_any}
use Rattle.zs_bytes.proofs.Writing.{bytes-one_slice}
use Rattle.zs_keys.specs.Matching.{intersects}
use Rattle.zs_wire.specs.declared.origin.Timestamp.{Timestamp}
use Rattle.zs_wire.specs.declared.quality.QoSType.{QoSType}
use Rattle.zs_wire.specs.declared.sample_kind.SampleKind.{SampleKind}
use Rattle.zs_wire.specs.declared.sample_kind.SampleKind.TheVariants.{Put, Delete}
use Rattle.zs_sample.specs.declared.sample_fields.SampleFields.{SampleFields}
use Rattle.zs_sample.specs.Reply.{Replied}
use Rattle.zs_query.specs.Marks.{is_earlier, is_below, mark_of, key_of}
use Rattle.zs_query.specs.Kept.{same_key, is_older, passes_all, kept, put}
use Rattle.zs_query.proofs.Order.{below_same, below_once}
use Rattle.zs_query.proofs.Keeping.{kept_more}
use Rattle.zs_events.specs.Updates.{body_of}
use Rattle.zs_model.specs.Answers.{replier_of}
use Rattle.zs_model.specs.Publications.{sample_on}
use Rattle.zs_model.specs.Replies.{reply_content, reply_on}
use Rattle.zs_store.specs.Entry.{EntrySeen}
use Rattle.zs_store.specs.Store.{Write, KeysAscend, found}
use Rattle.zs_store.proofs.Stores.{same_itself, same_key as equal_bytes, above_first, ascend_rest, none_above}
use Rattle.zs_keeping.specs.Answering.{update_of}
use Rattle.zs_replica_gets.specs.Newest.{replies_on, Tells, IsNewest, HandsOne, HandsNewest}

bytes_turned : (a b : List ℕ) → bytes_eq a b ≡ bytes_eq b a
bytes_turned a b = go (bytes_eq a b) refl (bytes_eq b a) refl
  where
    go : (x : Bool) → bytes_eq a b ≡ x → (y : Bool) → bytes_eq b a ≡ y → x ≡ y
    go true is true also = refl
    go false is false also = refl
    go true is false also = absurd (true≢false (sym (ap (λ (c : List ℕ). bytes_eq b c) (equal_bytes a b is) ∙ same_itself b) ∙ also))
    go false is true also = absurd (true≢false (sym (ap (λ (c : List ℕ). bytes_eq a c) (equal_bytes b a also) ∙ same_itself a) ∙ is))

-- a reply, if there is one
abbrev listed : Option Replied → List Replied
listed None = []
listed (Some r) = r ∷ []

-- the last reply of a list that passes all before it
abbrev top : List Replied → Option Replied
top [] = None
top (r ∷ older) = if passes_all older r then Some r else top older

module _ (q : List ℕ) where
  -- the last on the key that passes
  abbrev top_on : List Replied → Option Replied
  top_on [] = None
  top_on (r ∷ older) = if bytes_eq (key_of r) q && passes_all older r then Some r else top_on older

  apart : (a b : List ℕ) → bytes_eq a b ≡ false → a ≡ q → bytes_eq b q ≡ false
  apart a b other is = go (bytes_eq b q) refl
    where
      go : (x : Bool) → bytes_eq b q ≡ x → x ≡ false
      go false same = refl
      go true same = absurd (true≢false (sym (ap (λ (c : List ℕ). bytes_eq a c) (equal_bytes b q same ∙ sym is) ∙ same_itself a) ∙ other))

  put_other : (r : Replied) (xs : List Replied) → bytes_eq (key_of r) q ≡ false → replies_on q (put key_of r xs) ≡ replies_on q xs
  put_other r [] other = ap (λ (b : Bool). cond b (r ∷ []) []) other
  put_other r (x ∷ xs) other = go (bytes_eq (key_of r) (key_of x)) refl (put_other r xs other)
    where
      go : (b : Bool) → bytes_eq (key_of r) (key_of x) ≡ b → replies_on q (put key_of r xs) ≡ replies_on q xs
          → replies_on q (if b then r ∷ xs else x ∷ put key_of r xs) ≡ replies_on q (x ∷ xs)
      go true same ih =
          ap (λ (b : Bool). cond b (r ∷ replies_on q xs) (replies_on q xs)) other
          ∙ sym (ap (λ (b : Bool). cond b (x ∷ replies_on q xs) (replies_on q xs)) (ap (λ (k : List ℕ). bytes_eq k q) (sym (equal_bytes (key_of r) (key_of x) same)) ∙ other))
      go false same ih = ap (λ (rest : List Replied). cond (bytes_eq (key_of x) q) (x ∷ rest) rest) ih

  tail_none : (x : Replied) (rest : List Replied) (o : Option Replied) → x ∷ rest ≡ listed o → rest ≡ []
  tail_none x rest None is = cc
  tail_none x rest (Some y) is = cc

  put_same : (r : Replied) (xs : List Replied) (o : Option Replied) → key_of r ≡ q → replies_on q xs ≡ listed o → replies_on q (put key_of r xs) ≡ r ∷ []
  put_same r [] o is one = ap (λ (b : Bool). cond b (r ∷ []) []) (ap (λ (k : List ℕ). bytes_eq k q) is ∙ same_itself q)
  put_same r (x ∷ xs) o is one = go (bytes_eq (key_of r) (key_of x)) refl (put_same r xs o is)
    where
      here : bytes_eq (key_of r) q ≡ true
      here = ap (λ (k : List ℕ). bytes_eq k q) is ∙ same_itself q

      go : (b : Bool) → bytes_eq (key_of r) (key_of x) ≡ b → (replies_on q xs ≡ listed o → replies_on q (put key_of r xs) ≡ r ∷ [])
          → replies_on q (if b then r ∷ xs else x ∷ put key_of r xs) ≡ r ∷ []
      go true same ih =
          let on : bytes_eq (key_of x) q ≡ true = ap (λ (k : List ℕ). bytes_eq k q) (sym (equal_bytes (key_of r) (key_of x) same)) ∙ here in
          let whole : x ∷ replies_on q xs ≡ listed o = sym (ap (λ (b : Bool). cond b (x ∷ replies_on q xs) (replies_on q xs)) on) ∙ one in
          ap (λ (b : Bool). cond b (r ∷ replies_on q xs) (replies_on q xs)) here
          ∙ ap (λ (rest : List Replied). r ∷ rest) (tail_none x (replies_on q xs) o whole)
      go false same ih =
          let off : bytes_eq (key_of x) q ≡ false = apart (key_of r) (key_of x) same is in
          ap (λ (b : Bool). cond b (x ∷ replies_on q (put key_of r xs)) (replies_on q (put key_of r xs))) off
          ∙ ih (sym (ap (λ (b : Bool). cond b (x ∷ replies_on q xs) (replies_on q xs)) off) ∙ one)

  -- what is kept on a key is the last reply that passes
  kept_on : (rs : List Replied) → replies_on q (kept rs) ≡ listed (top_on rs)
  kept_on [] = refl
  kept_on (r ∷ older) = ap (replies_on q) (kept_more r older) ∙ go (passes_all older r) (bytes_eq (key_of r) q) refl (kept_on older)
    where
      go : (p b : Bool) → bytes_eq (key_of r) q ≡ b → replies_on q (kept older) ≡ listed (top_on older)
          → replies_on q (if p then put key_of r (kept older) else kept older) ≡ listed (if b && p then Some r else top_on older)
      go true true on ih = put_same r (kept older) (top_on older) (equal_bytes (key_of r) q on) ih
      go true false off ih = put_other r (kept older) off ∙ ih
      go false true on ih = ih
      go false false off ih = ih

  -- which sees the replies on the key alone
  any_on : (r : Replied) (older : List Replied) → key_of r ≡ q
      → list_any (λ b. same_key r b && is_older r b) older ≡ list_any (λ b. same_key r b && is_older r b) (replies_on q older)
  any_on r [] is = refl
  any_on r (x ∷ older) is = go (bytes_eq (key_of x) q) refl (any_on r older is)
    where
      go : (b : Bool) → bytes_eq (key_of x) q ≡ b → list_any (λ b. same_key r b && is_older r b) older ≡ list_any (λ b. same_key r b && is_older r b) (replies_on q older)
          → ((same_key r x && is_older r x) || list_any (λ b. same_key r b && is_older r b) older)
          ≡ list_any (λ b. same_key r b && is_older r b) (cond b (x ∷ replies_on q older) (replies_on q older))
      go true on ih = ap (λ (b : Bool). (same_key r x && is_older r x) || b) ih
      go false off ih =
          let other : same_key r x ≡ false = ap (λ (k : List ℕ). bytes_eq k (key_of x)) is ∙ bytes_turned q (key_of x) ∙ off in
          ap (λ (b : Bool). (b && is_older r x) || list_any (λ b. same_key r b && is_older r b) older) other ∙ ih

  top_is : (rs : List Replied) → top_on rs ≡ top (replies_on q rs)
  top_is [] = refl
  top_is (r ∷ older) = go (bytes_eq (key_of r) q) refl (top_is older)
    where
      go : (b : Bool) → bytes_eq (key_of r) q ≡ b → top_on older ≡ top (replies_on q older)
          → (if b && passes_all older r then Some r else top_on older) ≡ top (cond b (r ∷ replies_on q older) (replies_on q older))
      go true on ih =
          ap (λ (b : Bool). if not b then Some r else top_on older) (any_on r older (equal_bytes (key_of r) q on))
          ∙ ap (λ (o : Option Replied). if passes_all (replies_on q older) r then Some r else o) ih
      go false off ih = ih

-- a reply with what was written
abbrev pub reply_by : ℕ → ℕ → QoSType → Write → Replied
reply_by zid id qos w = reply_on w.key qos (Some (replier_of zid id)) (body_of [] (update_of w.entry))

-- its sample
abbrev sample_by : QoSType → List ℕ → EntrySeen → SampleFields
sample_by qos q entry = sample_on q (reply_content qos (body_of [] (update_of entry)))

reply_tells : (zid id : ℕ) (qos : QoSType) (q : List ℕ) (kind : SampleKind) (bytes : List ℕ) (time : Timestamp)
    → Tells q (record { kind = kind; bytes = bytes; timestamp = time }) (reply_by zid id qos (record { key = q; entry = record { kind = kind; bytes = bytes; timestamp = time } }))
reply_tells zid id qos q Put bytes time = record { sample = sample_by qos q (record { kind = Put; bytes = bytes; timestamp = time }); is = refl; on = refl; kind = refl; bytes = bytes-one_slice bytes; time = refl }
reply_tells zid id qos q Delete bytes time = record { sample = sample_by qos q (record { kind = Delete; bytes = bytes; timestamp = time }); is = refl; on = refl; kind = refl; bytes = refl; time = refl }

reply_time : (zid id : ℕ) (qos : QoSType) (q : List ℕ) (kind : SampleKind) (bytes : List ℕ) (time : Timestamp)
    → (mark_of (reply_by zid id qos (record { key = q; entry = record { kind = kind; bytes = bytes; timestamp = time } }))).timestamp ≡ Some time
reply_time zid id qos q Put bytes time = refl
reply_time zid id qos q Delete bytes time = refl

-- the replies with all that meets a key, behind others
abbrev pub pushed : ℕ → ℕ → QoSType → List ℕ → List Write → List Replied → List Replied
pushed zid id qos key [] rs = rs
pushed zid id qos key (w ∷ ws) rs = pushed zid id qos key ws (if intersects key w.key then reply_by zid id qos w ∷ rs else rs)

abbrev adds : ℕ → ℕ → QoSType → List ℕ → Option EntrySeen → List Replied → List Replied
adds zid id qos q None rs = rs
adds zid id qos q (Some e) rs = reply_by zid id qos (record { key = q; entry = e }) ∷ rs

pushed_on : (zid id : ℕ) (qos : QoSType) (key q : List ℕ) (ws : List Write) (rs : List Replied) → KeysAscend ws
    → replies_on q (pushed zid id qos key ws rs) ≡ adds zid id qos q (if intersects key q then found q ws else None) (replies_on q rs)
pushed_on zid id qos key q [] rs up = go (intersects key q)
  where
    go : (b : Bool) → replies_on q rs ≡ adds zid id qos q (if b then None else None) (replies_on q rs)
    go true = refl
    go false = refl
pushed_on zid id qos key q (w ∷ ws) rs up =
    pushed_on zid id qos key q ws (if intersects key w.key then reply_by zid id qos w ∷ rs else rs) (ascend_rest w ws up)
    ∙ by_key (bytes_eq q w.key) refl
  where
    nothing : (b : Bool) (xs : List Replied) → adds zid id qos q (if b then None else None) xs ≡ xs
    nothing true xs = refl
    nothing false xs = refl

    behind : (i b : Bool) → bytes_eq w.key q ≡ b → replies_on q (if i then reply_by zid id qos w ∷ rs else rs) ≡ (if i && b then reply_by zid id qos w ∷ replies_on q rs else replies_on q rs)
    behind true b is = ap (λ (b : Bool). cond b (reply_by zid id qos w ∷ replies_on q rs) (replies_on q rs)) is
    behind false b is = refl

    here : (i : Bool) → w.key ≡ q → (if i && true then reply_by zid id qos w ∷ replies_on q rs else replies_on q rs) ≡ adds zid id qos q (if i then Some w.entry else None) (replies_on q rs)
    here true is = ap (λ (k : List ℕ). reply_by zid id qos (record { key = k; entry = w.entry }) ∷ replies_on q rs) is
    here false is = refl

    others : (i : Bool) → (if i && false then reply_by zid id qos w ∷ replies_on q rs else replies_on q rs) ≡ replies_on q rs
    others true = refl
    others false = refl

    by_key : (b : Bool) → bytes_eq q w.key ≡ b
        → adds zid id qos q (if intersects key q then found q ws else None) (replies_on q (if intersects key w.key then reply_by zid id qos w ∷ rs else rs))
        ≡ adds zid id qos q (if intersects key q then cond b (Some w.entry) (found q ws) else None) (replies_on q rs)
    by_key true is =
        let same : q ≡ w.key = equal_bytes q w.key is in
        let none : found q ws ≡ None = ap (λ (k : List ℕ). found k ws) same ∙ none_above w.key ws (above_first w ws up) in
        let all = replies_on q (if intersects key w.key then reply_by zid id qos w ∷ rs else rs) in
        ap (λ (o : Option EntrySeen). adds zid id qos q (if intersects key q then o else None) all) none
        ∙ nothing (intersects key q) all
        ∙ behind (intersects key w.key) true (bytes_turned w.key q ∙ is)
        ∙ here (intersects key w.key) (sym same)
        ∙ ap (λ (k : List ℕ). adds zid id qos q (if intersects key k then Some w.entry else None) (replies_on q rs)) (sym same)
    by_key false is =
        ap (λ (xs : List Replied). adds zid id qos q (if intersects key q then found q ws else None) xs)
        (behind (intersects key w.key) false (bytes_turned w.key q ∙ is) ∙ others (intersects key w.key))

not_earlier_itself : (e : EntrySeen) → is_earlier e.timestamp e.timestamp ≡ false
not_earlier_itself e = below_same (Some e.timestamp)

-- of what both have at a key
newest_of : (s t id : ℕ) (qos : QoSType) (q : List ℕ) (own others : Option EntrySeen) (replies : List Replied)
    → replies ≡ listed (top (adds t id qos q others (adds s id qos q own []))) → HandsOne q own others replies
newest_of s t id qos q None None replies is = is
newest_of s t id qos q (Some e) None replies is = record {
  reply = reply_by s id qos (record { key = q; entry = e });
  one = is;
  entry = e;
  tells = reply_tells s id qos q e.kind e.bytes e.timestamp;
  had = inl refl;
  over_own = not_earlier_itself e;
  over_others = tt;
}
newest_of s t id qos q None (Some e) replies is = record {
  reply = reply_by t id qos (record { key = q; entry = e });
  one = is;
  entry = e;
  tells = reply_tells t id qos q e.kind e.bytes e.timestamp;
  had = inr refl;
  over_own = tt;
  over_others = not_earlier_itself e;
}
newest_of s t id qos q (Some e) (Some f) replies is = go (is_earlier f.timestamp e.timestamp) refl
  where
    older : (b : Bool) → is_earlier f.timestamp e.timestamp ≡ b → is_older (reply_by t id qos (record { key = q; entry = f })) (reply_by s id qos (record { key = q; entry = e })) ≡ b
    older b is =
        ap (λ (o : Option Timestamp). is_below o (mark_of (reply_by s id qos (record { key = q; entry = e }))).timestamp) (reply_time t id qos q f.kind f.bytes f.timestamp)
        ∙ ap (λ (o : Option Timestamp). is_below (Some f.timestamp) o) (reply_time s id qos q e.kind e.bytes e.timestamp)
        ∙ is

    chosen : (b : Bool) → is_earlier f.timestamp e.timestamp ≡ b
        → top (adds t id qos q (Some f) (adds s id qos q (Some e) []))
        ≡ (if not (b || false) then Some (reply_by t id qos (record { key = q; entry = f })) else Some (reply_by s id qos (record { key = q; entry = e })))
    chosen b is =
        ap (λ (c : Bool). if not ((c && is_older (reply_by t id qos (record { key = q; entry = f })) (reply_by s id qos (record { key = q; entry = e }))) || false)
        then Some (reply_by t id qos (record { key = q; entry = f })) else Some (reply_by s id qos (record { key = q; entry = e }))) (same_itself q)
        ∙ ap (λ (c : Bool). if not (c || false) then Some (reply_by t id qos (record { key = q; entry = f })) else Some (reply_by s id qos (record { key = q; entry = e }))) (older b is)

    go : (b : Bool) → is_earlier f.timestamp e.timestamp ≡ b → IsNewest q (Some e) (Some f) replies
    go false not_later = record {
      reply = reply_by t id qos (record { key = q; entry = f });
      one = is ∙ ap listed (chosen false not_later);
      entry = f;
      tells = reply_tells t id qos q f.kind f.bytes f.timestamp;
      had = inr refl;
      over_own = not_later;
      over_others = not_earlier_itself f;
    }
    go true later = record {
      reply = reply_by s id qos (record { key = q; entry = e });
      one = is ∙ ap listed (chosen true later);
      entry = e;
      tells = reply_tells s id qos q e.kind e.bytes e.timestamp;
      had = inl refl;
      over_own = not_earlier_itself e;
      over_others = below_once (Some f.timestamp) (Some e.timestamp) later;
    }

-- what a get has had of both sides
abbrev pub from_both : ℕ → ℕ → ℕ → QoSType → List ℕ → List ℕ → List Write → List Write → List Replied
from_both s t id qos keys key own others = if intersects key keys then pushed t id qos key others (pushed s id qos key own []) else []

pub newest_kept : (s t id : ℕ) (qos : QoSType) (keys key : List ℕ) (own others : List Write) → KeysAscend own → KeysAscend others
    → HandsNewest keys key own others (kept (from_both s t id qos keys key own others))
newest_kept s t id qos keys key own others up above = go (intersects key keys) refl
  where
    first : (q : List ℕ) (b : Bool) → intersects key q ≡ b → replies_on q (kept (pushed t id qos key others (pushed s id qos key own [])))
        ≡ listed (top (adds t id qos q (if b then found q others else None) (adds s id qos q (if b then found q own else None) [])))
    first q b is =
        kept_on q (pushed t id qos key others (pushed s id qos key own []))
        ∙ ap listed (top_is q (pushed t id qos key others (pushed s id qos key own []))
        ∙ ap top (pushed_on t id qos key q others (pushed s id qos key own []) above
        ∙ ap (adds t id qos q (if intersects key q then found q others else None)) (pushed_on s id qos key q own [] up)
        ∙ ap (λ (b : Bool). adds t id qos q (if b then found q others else None) (adds s id qos q (if b then found q own else None) [])) is))

    go : (b : Bool) → intersects key keys ≡ b → HandsNewest keys key own others (kept (if b then pushed t id qos key others (pushed s id qos key own []) else []))
    go true is = record {
      met = λ q both. newest_of s t id qos q (found q own) (found q others) (replies_on q (kept (pushed t id qos key others (pushed s id qos key own []))))
          (first q true (sym (ap (λ (b : Bool). b && intersects key q) is) ∙ both));
      unmet = λ q none. first q false (sym (ap (λ (b : Bool). b && intersects key q) is) ∙ none);
    }
    go false is = record {
      met = λ q both. absurd (true≢false (sym (sym (ap (λ (b : Bool). b && intersects key q) is) ∙ both)));
      unmet = λ q none. refl;
    }
