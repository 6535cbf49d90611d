-- A journal without a lie is honest: there is a reply that shows what stands, and it differs from any other one in its text. So each
-- reply tells, or is a lie.
use Rattle.base.proofs.Membership.{contains_first}
use Rattle.base.proofs.Options.{Some-from_is_some}
use Rattle.std.proofs.Common.{◌≡◌, ◌↔◌, ◌⊎◌, inl, inr, ℕ, zero, suc, true, List, [], ◌∷◌, ◌++◌, codes, take, drop, Contains, Option, Some, None, refl, sym, ◌∙◌, ap, subst, arith, append_assoc}
use Rattle.std.specs.Prelude.{IsSome, option_map, ltb}
use Rattle.std.specs.List.{list_all}
use Rattle.std.specs.Str.{IsAscii}
use Rattle.std.proofs.lemmas.Bool.{and_parts, ltb-true}
use Rattle.std.proofs.lemmas.Fmt.{IsAscii-from_digits}
use Rattle.std.proofs.lemmas.List.Elements.{All-contains, Contains-append_left, Contains-append_right}
use Rattle.wire_bytes.proofs.Division.{bytes_small}
use Rattle.ulid_core.specs.UlidText.{text_of}
use Rattle.ulid_core.proofs.AsciiTexts.{IsAscii-text_of}
use Rattle.block_keys.specs.Keys.{IsLawfulKey, key_ulid}
use Rattle.block_keys.specs.KeyText.{IsName as IsObjectName, key_text, name_of}
use Rattle.block_keys.specs.declared.key.Key.{Key}
use Rattle.block_keys.specs.declared.key.Key.TheVariants as key
use Rattle.block_keys.proofs.KeyLaws.{IsName-name_of}
use Rattle.bucket_core.specs.Contents.{Contents, nothing, range_of}
use Rattle.bucket_core.specs.Pages.{IsName, IsPage, Lists}
use Rattle.world_core.specs.Journals.{Each}
use Rattle.world_core.specs.Operations.{IsLawful, IsReplyTo, PutsBytes, ShowsBytes}
use Rattle.world_core.specs.Standing.{IsHonest, Tells, stands}
use Rattle.world_core.specs.Worlds.{IsJournal, IsOfBytes}
use Rattle.world_core.specs.declared.entry.Entry.{Entry}
use Rattle.world_core.specs.declared.op.Op.{Op}
use Rattle.world_core.specs.declared.op.Op.TheVariants.{Clock, Put, Get, GetRange, Delete, RootPage, BlockPage}
use Rattle.world_core.specs.declared.reply.Reply.{Reply}
use Rattle.world_core.specs.declared.reply.Reply.TheVariants.{Clocked, Stored, Found, Absent, Deleted, Names, Failed}
use Rattle.lifecycle_core.specs.Breaches.{FirstDiffer, IsLie, IsUnbroken, honesty, shown_by}
use Rattle.lifecycle_core.specs.Setting.{Setting}
use Rattle.lifecycle_core.proofs.journals.Differing.{AreBelow, AreNames, below_both, ended, ended_below, names_low, same_behind, same_names, same_or_differ}
use Rattle.lifecycle_core.proofs.journals.Honesty.{no_lie}
use Rattle.lifecycle_core.proofs.journals.OwedPages.{page_there}
use Rattle.lifecycle_core.proofs.journals.Standing.{WasPut, was_put}

-- ---- parts of texts

taken_below : (most n : ℕ) (bytes : List ℕ) → AreBelow most bytes → AreBelow most (take n bytes)
taken_below most zero [] low = tt
taken_below most zero (x ∷ bytes) low = tt
taken_below most (suc n) [] low = tt
taken_below most (suc n) (x ∷ bytes) low = (low.0, taken_below most n bytes low.1)

dropped_below : (most n : ℕ) (bytes : List ℕ) → AreBelow most bytes → AreBelow most (drop n bytes)
dropped_below most zero [] low = tt
dropped_below most zero (x ∷ bytes) low = low
dropped_below most (suc n) [] low = tt
dropped_below most (suc n) (x ∷ bytes) low = dropped_below most n bytes low.1

rest_below : (most : ℕ) (front rest : List ℕ) → AreBelow most (front ++ rest) → AreBelow most rest
rest_below most [] rest low = low
rest_below most (x ∷ front) rest low = rest_below most front rest low.1

-- ---- texts of keys

ascii_below : (text : List ℕ) → IsAscii text → AreBelow 255 text
ascii_below [] are = tt
ascii_below (x ∷ text) are = (omega (arith, are 0), ascii_below text (λ i. are (suc i)))

tested_below : (text : List ℕ) → list_all (λ c. ltb c 255) text ≡ true → AreBelow 255 text
tested_below [] all = tt
tested_below (c ∷ text) all =
    let parts = and_parts (ltb c 255) (list_all (λ x. ltb x 255) text) all in (ltb-true c 255 parts.0, tested_below text parts.1)

name_below : (k : Key) (name : List ℕ) → IsObjectName name k → AreBelow 255 name
name_below (key.Meta ulid) name is = subst (AreBelow 255) (sym is) (tested_below (codes "meta.json") refl)
name_below (key.Index ulid) name is = subst (AreBelow 255) (sym is) (tested_below (codes "index") refl)
name_below (key.Segment ulid number) name is =
    subst (AreBelow 255) (sym is.name_is) (below_both 255 (codes "chunks/") is.digits (tested_below (codes "chunks/") refl) (ascii_below is.digits (IsAscii-from_digits is.digits is.decimal)))
name_below (key.Mark ulid) name is = subst (AreBelow 255) (sym is) (tested_below (codes "deletion-mark.json") refl)

key_below : (k : Key) → IsLawfulKey k → AreBelow 255 (key_text k)
unfolding key_text
key_below k lawful =
    below_both 255 (text_of (key_ulid k) ++ codes "/") (name_of k)
    (below_both 255 (text_of (key_ulid k)) (codes "/") (ascii_below (text_of (key_ulid k)) (IsAscii-text_of (key_ulid k))) (tested_below (codes "/") refl))
    (name_below k (name_of k) (IsName-name_of k lawful))

-- a name under which such a text is listed
listed_below : (within text name : List ℕ) → AreBelow 255 text → Lists within text name → AreBelow 255 name
listed_below [] text name low lists = subst (AreBelow 255) (sym lists) (taken_below 255 _ text low)
listed_below (b ∷ w) text name low lists = (rest_below 255 (b ∷ w) (47 ∷ name) (subst (AreBelow 255) lists low)).1

-- ---- what stands was put

abbrev put_text : Op → List (List ℕ)
put_text (Put k bytes) = key_text k ∷ []
put_text (Clock moment) = []
put_text (Get k) = []
put_text (GetRange k from len) = []
put_text (Delete k) = []
put_text (RootPage after limit) = []
put_text (BlockPage ulid after limit) = []

abbrev texts_put : List Entry → List (List ℕ)
texts_put [] = []
texts_put (e ∷ entries) = put_text e.op ++ texts_put entries

text_among : (front back : List Entry) (e : Entry) (k : Key) (bytes : List ℕ) → e.op ≡ Put k bytes → Contains (texts_put (front ++ e ∷ back)) (key_text k)
text_among [] back e k bytes is =
    Contains-append_left (put_text e.op) (texts_put back) (key_text k) (subst (λ (o : Op). Contains (put_text o) (key_text k)) (sym is) (contains_first (key_text k) []))
text_among (x ∷ front) back e k bytes is = Contains-append_right (put_text x.op) (texts_put (front ++ e ∷ back)) (key_text k) (text_among front back e k bytes is)

put_of : (before : List Entry) (text bytes : List ℕ) → stands before text ≡ Some bytes → WasPut before text bytes
put_of before text bytes is = elim (was_put before nothing text bytes is) [ inl put ↦ put | inr none ↦ absurd (cc (none)) ]

all_put : (before : List Entry) (text : List ℕ) → IsSome (stands before text) → Contains (texts_put before) text
all_put before text some =
    let here = Some-from_is_some (stands before text) some in
    let w = put_of before text here.0 here.1 in
    subst (Contains (texts_put before)) w.same (subst (λ (es : List Entry). Contains (texts_put es) (key_text w.key_is)) (sym w.parts) (text_among w.front w.back w.entry w.key_is here.0 w.puts))

module _ (tick : ℕ) (journal : List Entry) (kept : IsJournal tick journal) (of_bytes : IsOfBytes journal) (before after : List Entry) (e : Entry) (parts : journal ≡ before ++ e ∷ after) where
  put_at : (front back : List Entry) (x : Entry) → before ≡ front ++ x ∷ back → journal ≡ front ++ x ∷ (back ++ e ∷ after)
  put_at front back x is = parts ∙ ap (λ (es : List Entry). es ++ e ∷ after) is ∙ append_assoc front (x ∷ back) (e ∷ after)

  object_below : (text bytes : List ℕ) → stands before text ≡ Some bytes → AreBelow 256 bytes
  object_below text bytes is =
      let w = put_of before text bytes is in
      bytes_small bytes (subst PutsBytes w.puts (of_bytes w.front (w.back ++ e ∷ after) w.entry (put_at w.front w.back w.entry w.parts)).0)

  stands_below : (within name : List ℕ) → IsName (stands before) within name → AreBelow 255 name
  stands_below within name (text, some, lists) =
      let here = Some-from_is_some (stands before text) some in
      let w = put_of before text here.0 here.1 in
      let lawful : IsLawfulKey w.key_is = subst IsLawful w.puts (kept.lawful w.front (w.back ++ e ∷ after) w.entry (put_at w.front w.back w.entry w.parts)) in
      listed_below within text name (subst (AreBelow 255) w.same (key_below w.key_is lawful)) lists

-- ---- one reply

-- some reply of the operation's kind that shows what stands differs from this one
pub record Lies (c : Contents) (o : Op) (r : Reply) : Type 0 where
  pub reply : Reply
  pub one : List ℕ
  pub other : List ℕ
  pub x : ℕ
  pub y : ℕ
  pub kind : IsReplyTo o reply
  pub tells : Tells c o reply
  pub shown : shown_by r ≡ Some one
  pub owed : shown_by reply ≡ Some other
  pub differ : FirstDiffer one other x y

lies : (c : Contents) (o : Op) (r reply : Reply) (one other : List ℕ) (x y : ℕ) → IsReplyTo o reply → Tells c o reply → shown_by r ≡ Some one → shown_by reply ≡ Some other → FirstDiffer one other x y → Lies c o r
lies c o r reply one other x y kind tells shown owed differ = record { reply = reply; one = one; other = other; x = x; y = y; kind = kind; tells = tells; shown = shown; owed = owed; differ = differ }

-- what an operation shows of an object: its bytes, or that there is none
record ShowsObject (c : Contents) (o : Op) (object : Option (List ℕ)) : Type 0 where
  found_kind : (bytes : List ℕ) → IsReplyTo o (Found bytes)
  absent_kind : IsReplyTo o Absent
  found : (bytes : List ℕ) → object ≡ Some bytes → Tells c o (Found bytes)
  absent : object ≡ None → Tells c o Absent
  low : (bytes : List ℕ) → object ≡ Some bytes → AreBelow 256 bytes

found_or_absent : (bytes : List ℕ) → FirstDiffer (codes "F" ++ bytes) (codes "A") 70 65
found_or_absent bytes = ([], codes "F" ++ bytes, codes "A", refl, refl, refl, refl, λ e. omega (arith, e))

absent_or_found : (bytes : List ℕ) → FirstDiffer (codes "A") (codes "F" ++ bytes) 65 70
absent_or_found bytes = ([], codes "A", codes "F" ++ bytes, refl, refl, refl, refl, λ e. omega (arith, e))

module _ (c : Contents) (o : Op) (object : Option (List ℕ)) (shows : ShowsObject c o object) where
  found_told : (bytes : List ℕ) → AreBelow 256 bytes → (it : Option (List ℕ)) → object ≡ it → Tells c o (Found bytes) ⊎ Lies c o (Found bytes)
  found_told bytes low None is = inr (lies c o (Found bytes) Absent (codes "F" ++ bytes) (codes "A") 70 65 shows.absent_kind (shows.absent is) refl refl (found_or_absent bytes))
  found_told bytes low (Some own) is = elim (same_or_differ bytes own low (shows.low own is)) [
    | inl same ↦ inl (shows.found bytes (is ∙ ap (λ (b : List ℕ). Some b) (sym same)))
    | inr apart ↦
        let d = same_behind (codes "F") bytes own apart in
        inr (lies c o (Found bytes) (Found own) (codes "F" ++ bytes) (codes "F" ++ own) d.0 d.1 (shows.found_kind own) (shows.found own is) refl refl d.2)
  ]

  absent_told : (it : Option (List ℕ)) → object ≡ it → Tells c o Absent ⊎ Lies c o Absent
  absent_told None is = inl (shows.absent is)
  absent_told (Some own) is = inr (lies c o Absent (Found own) (codes "A") (codes "F" ++ own) 65 70 (shows.found_kind own) (shows.found own is) refl refl (absent_or_found own))

range_of_none : (start len : ℕ) (object : Option (List ℕ)) → option_map (range_of start len) object ≡ None → object ≡ None
range_of_none start len None is = refl
range_of_none start len (Some bytes) is = absurd (cc (is))

range_below : (start len : ℕ) (object : Option (List ℕ)) (bytes : List ℕ) → ((whole : List ℕ) → object ≡ Some whole → AreBelow 256 whole) → option_map (range_of start len) object ≡ Some bytes → AreBelow 256 bytes
range_below start len None bytes low is = absurd (cc (is))
range_below start len (Some whole) bytes low is =
    let same : range_of start len whole ≡ bytes = cc (is) in
    subst (AreBelow 256) same (taken_below 256 len (drop start whole) (dropped_below 256 start whole (low whole refl)))

module _ (c : Contents) (low : (text bytes : List ℕ) → c text ≡ Some bytes → AreBelow 256 bytes) (names_below : (within name : List ℕ) → IsName c within name → AreBelow 255 name)
    (owed : (within after : List ℕ) (limit : ℕ) → (names : List (List ℕ)) × IsPage c within after limit names) where
  get_shows : (k : Key) → ShowsObject c (Get k) (c (key_text k))
  get_shows k = record { found_kind = λ bytes. tt; absent_kind = tt; found = λ bytes is. is; absent = λ is. is; low = low (key_text k) }

  range_shows : (k : Key) (start len : ℕ) → ShowsObject c (GetRange k start len) (option_map (range_of start len) (c (key_text k)))
  range_shows k start len = record {
    found_kind = λ bytes. tt;
    absent_kind = tt;
    found = λ bytes is. is;
    absent = range_of_none start len (c (key_text k));
    low = λ bytes. range_below start len (c (key_text k)) bytes (low (key_text k));
  }

  are_names : (within : List ℕ) (names more : List (List ℕ)) → ((name : List ℕ) → Contains names name → IsName c within name) → AreNames names
  are_names within [] more stand = tt
  are_names within (name ∷ names) more stand =
      (names_below within name (stand name (contains_first name names)), are_names within names more (λ other among. stand other (Contains-append_right (name ∷ []) names other among)))

  page_told : (o : Op) (within after : List ℕ) (limit : ℕ) (names : List (List ℕ)) → AreNames names
      → ((other : List (List ℕ)) → IsReplyTo o (Names other)) → ((other : List (List ℕ)) → IsPage c within after limit other → Tells c o (Names other)) → Tells c o (Names names) ⊎ Lies c o (Names names)
  page_told o within after limit names are kind tells =
      let page = owed within after limit in
      let so : AreNames page.0 = are_names within page.0 [] (λ name among. All-contains (IsName c within) page.0 name (page.1).stand among) in
      elim (same_or_differ (ended names) (ended page.0) (ended_below names are) (ended_below page.0 so)) [
        | inl same ↦ inl (tells names (subst (IsPage c within after limit) (sym (same_names names page.0 are so same)) page.1))
        | inr apart ↦
            let d = same_behind (codes "N") (ended names) (ended page.0) apart in
            inr (lies c o (Names names) (Names page.0) (codes "N" ++ ended names) (codes "N" ++ ended page.0) d.0 d.1 (kind page.0) (tells page.0 page.1) refl refl d.2)
      ]

  reply_told : (o : Op) (r : Reply) → ShowsBytes r → Tells c o r ⊎ Lies c o r
  reply_told (Clock moment) r shows = inl tt
  reply_told (Put k bytes) r shows = inl tt
  reply_told (Delete k) r shows = inl tt
  reply_told (Get k) Clocked shows = inl tt
  reply_told (Get k) Stored shows = inl tt
  reply_told (Get k) (Found bytes) shows = found_told c (Get k) (c (key_text k)) (get_shows k) bytes (bytes_small bytes shows) (c (key_text k)) refl
  reply_told (Get k) Absent shows = absent_told c (Get k) (c (key_text k)) (get_shows k) (c (key_text k)) refl
  reply_told (Get k) Deleted shows = inl tt
  reply_told (Get k) (Names names) shows = inl tt
  reply_told (Get k) (Failed landed) shows = inl tt
  reply_told (GetRange k start len) Clocked shows = inl tt
  reply_told (GetRange k start len) Stored shows = inl tt
  reply_told (GetRange k start len) (Found bytes) shows =
      let part : Option (List ℕ) = option_map (range_of start len) (c (key_text k)) in
      found_told c (GetRange k start len) part (range_shows k start len) bytes (bytes_small bytes shows) part refl
  reply_told (GetRange k start len) Absent shows =
      let part : Option (List ℕ) = option_map (range_of start len) (c (key_text k)) in
      absent_told c (GetRange k start len) part (range_shows k start len) part refl
  reply_told (GetRange k start len) Deleted shows = inl tt
  reply_told (GetRange k start len) (Names names) shows = inl tt
  reply_told (GetRange k start len) (Failed landed) shows = inl tt
  reply_told (RootPage after limit) Clocked shows = inl tt
  reply_told (RootPage after limit) Stored shows = inl tt
  reply_told (RootPage after limit) (Found bytes) shows = inl tt
  reply_told (RootPage after limit) Absent shows = inl tt
  reply_told (RootPage after limit) Deleted shows = inl tt
  reply_told (RootPage after limit) (Names names) shows = page_told (RootPage after limit) [] after limit names (names_low names shows) (λ other. tt) (λ other page. page)
  reply_told (RootPage after limit) (Failed landed) shows = inl tt
  reply_told (BlockPage ulid after limit) Clocked shows = inl tt
  reply_told (BlockPage ulid after limit) Stored shows = inl tt
  reply_told (BlockPage ulid after limit) (Found bytes) shows = inl tt
  reply_told (BlockPage ulid after limit) Absent shows = inl tt
  reply_told (BlockPage ulid after limit) Deleted shows = inl tt
  reply_told (BlockPage ulid after limit) (Names names) shows =
      page_told (BlockPage ulid after limit) (text_of ulid) after limit names (names_low names shows) (λ other. tt) (λ other page. page)
  reply_told (BlockPage ulid after limit) (Failed landed) shows = inl tt

-- ---- the journal

-- a reply tells, or it is a lie
pub tells_or_lies : (tick : ℕ) (journal : List Entry) → IsJournal tick journal → IsOfBytes journal → Each (λ before e. Tells (stands before) e.op e.reply ⊎ ((x : ℕ) × (y : ℕ) × IsLie before e x y)) journal
tells_or_lies tick journal kept of_bytes before after e parts =
    elim (reply_told (stands before) (object_below tick journal kept of_bytes before after e parts) (stands_below tick journal kept of_bytes before after e parts)
    (λ within cursor limit. page_there (stands before) within (texts_put before) (all_put before) cursor limit)
    e.op e.reply (of_bytes before after e parts).1) [
      | inl tells ↦ inl tells
      | inr l ↦ inr (l.x, l.y, (l.reply, l.one, l.other, l.kind, l.tells, l.shown, l.owed, l.differ))
    ]

-- it tells exactly where it is no lie
pub told_or_lies : (tick : ℕ) (journal : List Entry) → IsJournal tick journal → IsOfBytes journal → Each (λ before e. ((x y : ℕ) → ¬ IsLie before e x y) ↔ Tells (stands before) e.op e.reply) journal
told_or_lies tick journal kept of_bytes before after e parts = (
  λ none. elim (tells_or_lies tick journal kept of_bytes before after e parts) [ inl tells ↦ tells | inr lie ↦ absurd (none lie.0 lie.1 lie.2) ],
  λ tells x y. no_lie before e x y (kept.kinds before after e parts) tells,
)

pub unbroken_is_honest : (setting : Setting) (tick : ℕ) (journal : List Entry) → IsJournal tick journal → IsOfBytes journal → IsUnbroken setting journal → IsHonest journal
unbroken_is_honest setting tick journal kept of_bytes unbroken before after e parts =
    (told_or_lies tick journal kept of_bytes before after e parts).0 (λ x y lie. unbroken before after e parts honesty x y lie)
