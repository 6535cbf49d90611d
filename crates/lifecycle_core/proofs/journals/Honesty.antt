-- An honest journal tells no lie: what an operation owes is one thing.
use Rattle.base.proofs.Membership.{contains_first}
use Rattle.std.proofs.Common.{◌≡◌, ◌⊎◌, inl, inr, ℕ, zero, suc, ◌≤◌, List, [], ◌∷◌, ◌++◌, length, codes, Contains, Option, Some, None, refl, sym, ◌∙◌, ap, subst, append_assoc, append-nil, arith}
use Rattle.std.specs.Prelude.{option_map}
use Rattle.std.specs.List.{All, flat_map}
use Rattle.std.specs.Ordering.{nat_cmp}
use Rattle.std.specs.Cmp.Lexicographic.{slice_cmp}
use Rattle.std.specs.declared.cmp.Ordering.{Ordering}
use Rattle.std.specs.declared.cmp.Ordering.TheVariants.{Less, Equal, Greater}
use Rattle.std.proofs.lemmas.Cmp.{nat_list_cmp_total}
use Rattle.std.proofs.lemmas.List.{append_cancel_left, length-append}
use Rattle.std.proofs.lemmas.List.Elements.{All-contains, Contains-append_cases}
use Rattle.std.proofs.lemmas.Map.Text.{is_eq-slice_cmp}
use Rattle.std.proofs.lemmas.Slice.Eq.{bytes_eq-Decides}
use Rattle.std.specs.Ordering.{is_eq, ordering_reverse}
use Rattle.base.specs.Order.{InOrderAfter, ComesAfter}
use Rattle.block_keys.specs.KeyText.{key_text}
use Rattle.bucket_core.specs.Contents.{Contents, range_of}
use Rattle.bucket_core.specs.Pages.{IsName, IsPage}
use Rattle.ulid_core.specs.UlidText.{text_of}
use Rattle.label_sets.specs.Labels.{ComesBefore, compare_texts}
use Rattle.label_sets.proofs.LabelValues.{before_trans}
use Rattle.world_core.specs.Operations.{IsReplyTo}
use Rattle.world_core.specs.Standing.{Tells, stands}
use Rattle.world_core.specs.declared.entry.Entry.{Entry}
use Rattle.world_core.specs.declared.op.Op.{Op}
use Rattle.world_core.specs.declared.op.Op.TheVariants.{Clock, Put, Get, GetRange, Delete, RootPage, BlockPage}
use Rattle.world_core.specs.declared.reply.Reply.{Reply}
use Rattle.world_core.specs.declared.reply.Reply.TheVariants.{Clocked, Stored, Found, Absent, Deleted, Names, Failed}
use Rattle.lifecycle_core.specs.Breaches.{FirstDiffer, IsLie, next_byte, shown_by}
use Rattle.lifecycle_core.proofs.journals.Positions.{stands_in}
use Rattle.lifecycle_core.proofs.journals.OwedPages.{not_itself}

-- ---- the order of names

member_before : (x : List ℕ) (front : List (List ℕ)) (y z : List ℕ) → ComesBefore x y → ((w : List ℕ) → Contains front w → ComesBefore w y) → Contains (x ∷ front) z → ComesBefore z y
member_before x front y z less rest (zero, below, is) = subst (λ (w : List ℕ). ComesBefore w y) is less
member_before x front y z less rest (suc k, below, is) = rest z (k, omega (arith, below), is)

-- what stands before and after a member of an ascending list
front_before : (after : List ℕ) (front : List (List ℕ)) (y : List ℕ) (later : List (List ℕ)) → InOrderAfter (ComesAfter compare_texts) (Some after) (front ++ y ∷ later) → ComesBefore after y × ((z : List ℕ) → Contains front z → ComesBefore z y) × InOrderAfter (ComesAfter compare_texts) (Some y) later
front_before after [] y later up = (up.0, (λ z among. absurd (omega (arith, among.1))), up.1)
front_before after (x ∷ front) y later up =
    let rest = front_before x front y later up.1 in
    (before_trans after x y up.0 rest.0, (λ z among. member_before x front y z rest.0 rest.1 among), rest.2)

all_after : (y : List ℕ) (later : List (List ℕ)) (z : List ℕ) → InOrderAfter (ComesAfter compare_texts) (Some y) later → Contains later z → ComesBefore y z
all_after y [] z up among = absurd (omega (arith, among.1))
all_after y (x ∷ later) z up (zero, below, is) = subst (ComesBefore y) is up.0
all_after y (x ∷ later) z up (suc k, below, is) = before_trans y x z up.0 (all_after x later z up.1 (k, omega (arith, below), is))

-- ---- one page

after_first : (x y : List ℕ) (later : List (List ℕ)) → ComesBefore x y → InOrderAfter (ComesAfter compare_texts) (Some y) later → (z : List ℕ) → Contains (y ∷ later) z → ComesBefore x z
after_first x y later less up z (zero, below, is) = subst (ComesBefore x) is less
after_first x y later less up z (suc k, below, is) = before_trans x y z less (all_after y later z up (k, omega (arith, below), is))

nobody : (x z : List ℕ) → Contains [] z → ComesBefore x z
nobody x z among = absurd (omega (arith, among.1))

module _ (contents : Contents) (within after : List ℕ) (limit : ℕ) where
  abbrev Page : List (List ℕ) → Type 0
  Page names = IsPage contents within after limit names

  no_room : (front one other : List (List ℕ)) (x : List ℕ) → length (front ++ x ∷ one) ≤ limit → length (front ++ other) ≡ limit → All (λ listed. ComesBefore listed x) (front ++ other) → ((z : List ℕ) → Contains other z → ComesBefore x z) → ⊥
  no_room front one [] x few full all greater = omega (arith, few, full, length-append front (x ∷ one), ap length (append-nil front))
  no_room front one (y ∷ other) x few full all greater =
      let less = All-contains (λ listed. ComesBefore listed x) (front ++ y ∷ other) y all (stands_in front other y) in
      not_itself x (before_trans x y x (greater y (contains_first y other)) less)

  -- a name of one page that is less than what another page, which begins as that one, has in its place
  apart : (front one other : List (List ℕ)) (x : List ℕ) → Page (front ++ x ∷ one) → Page (front ++ other) → ((z : List ℕ) → Contains other z → ComesBefore x z) → ⊥
  apart front one other x own page greater =
      let at = front_before after front x one own.ascend in
      let name : IsName contents within x = All-contains (IsName contents within) (front ++ x ∷ one) x own.stand (stands_in front one x) in
      elim (page.whole x name at.0) [
        | inl among ↦ elim (Contains-append_cases front other x among) [ inl early ↦ not_itself x (at.1 x early) | inr late ↦ not_itself x (greater x late) ]
        | inr (full, all) ↦ no_room front one other x own.few full all greater
      ]

  by_order : (x y : List ℕ) (one other front : List (List ℕ)) (o : Ordering) → slice_cmp nat_cmp x y ≡ o → Page (front ++ x ∷ one) → Page (front ++ y ∷ other) → (x ≡ y → one ≡ other) → x ∷ one ≡ y ∷ other
  by_order x y one other front Less is a b rest =
      absurd (apart front one (y ∷ other) x a b (after_first x y other is (front_before after front y other b.ascend).2))
  by_order x y one other front Greater is a b rest =
      let less : ComesBefore y x = nat_list_cmp_total.antisymm y x ∙ ap ordering_reverse is in
      absurd (apart front other (x ∷ one) y b a (after_first y x one less (front_before after front x one a.ascend).2))
  by_order x y one other front Equal is a b rest =
      let same : x ≡ y = (bytes_eq-Decides x y).0 (sym (is_eq-slice_cmp x y) ∙ ap is_eq is) in cc (same, rest same)

  same_page : (one other front : List (List ℕ)) → Page (front ++ one) → Page (front ++ other) → one ≡ other
  same_page [] [] front a b = refl
  same_page (x ∷ one) [] front a b = absurd (apart front one [] x a b (nobody x))
  same_page [] (y ∷ other) front a b = absurd (apart front other [] y b a (nobody y))
  same_page (x ∷ one) (y ∷ other) front a b =
      by_order x y one other front (slice_cmp nat_cmp x y) refl a b
      (λ same. same_page one other (front ++ x ∷ []) (subst Page (sym (append_assoc front (x ∷ []) one)) a) (subst Page (sym (append_assoc front (x ∷ []) other)) (subst (λ z. Page (front ++ z ∷ other)) (sym same) b)))

-- ---- one reply

-- the same text does not differ from itself
pub same_text : (one other : List ℕ) (x y : ℕ) → one ≡ other → ¬ FirstDiffer one other x y
same_text one other x y same (front, left, right, begins, goes, is_x, is_y, differ) =
    let rest : left ≡ right = append_cancel_left front left right (sym begins ∙ same ∙ goes) in
    differ (sym is_x ∙ ap next_byte rest ∙ is_y)

-- a reply that shows something of the bucket: an object, that there is none, or names
abbrev Shows : Reply → Type 0
Shows reply = ((bytes : List ℕ) × (reply ≡ Found bytes)) ⊎ ((reply ≡ Absent) ⊎ ((names : List (List ℕ)) × (reply ≡ Names names)))

shows : (reply : Reply) (text : List ℕ) → shown_by reply ≡ Some text → Shows reply
shows (Found bytes) text is = inl (bytes, refl)
shows Absent text is = inr (inl refl)
shows (Names names) text is = inr (inr (names, refl))
shows Clocked text is = absurd (cc (is))
shows Stored text is = absurd (cc (is))
shows Deleted text is = absurd (cc (is))
shows (Failed landed) text is = absurd (cc (is))

-- the text of an object, and that of names
abbrev object_text : Option (List ℕ) → List ℕ
object_text None = codes "A"
object_text (Some bytes) = codes "F" ++ bytes

abbrev names_text : List (List ℕ) → List ℕ
names_text names = codes "N" ++ flat_map (λ name. name ++ 255 ∷ []) names

module _ (c : Contents) (o : Op) (reply : Reply) (text : List ℕ) (kind : IsReplyTo o reply) (tells : Tells c o reply) (is : shown_by reply ≡ Some text) where
  nothing_shown : ((bytes : List ℕ) → ¬ IsReplyTo o (Found bytes)) → ¬ IsReplyTo o Absent → ((names : List (List ℕ)) → ¬ IsReplyTo o (Names names)) → ⊥
  nothing_shown no_object no_absence no_names = elim (shows reply text is) [
    | inl (bytes, same) ↦ no_object bytes (subst (IsReplyTo o) same kind)
    | inr (inl same) ↦ no_absence (subst (IsReplyTo o) same kind)
    | inr (inr (names, same)) ↦ no_names names (subst (IsReplyTo o) same kind)
  ]

  object_shown : (object : Option (List ℕ)) → ((bytes : List ℕ) → Tells c o (Found bytes) → object ≡ Some bytes) → (Tells c o Absent → object ≡ None) → ((names : List (List ℕ)) → ¬ IsReplyTo o (Names names)) → text ≡ object_text object
  object_shown object found absent no_names = elim (shows reply text is) [
    | inl (bytes, same) ↦
        let own : text ≡ codes "F" ++ bytes = cc (is, ap shown_by same) in
        own ∙ sym (ap object_text (found bytes (subst (Tells c o) same tells)))
    | inr (inl same) ↦
        let own : text ≡ codes "A" = cc (is, ap shown_by same) in
        own ∙ sym (ap object_text (absent (subst (Tells c o) same tells)))
    | inr (inr (names, same)) ↦ absurd (no_names names (subst (IsReplyTo o) same kind))
  ]

  names_shown : ((bytes : List ℕ) → ¬ IsReplyTo o (Found bytes)) → ¬ IsReplyTo o Absent → (names : List (List ℕ)) × Tells c o (Names names) × (text ≡ names_text names)
  names_shown no_object no_absence = elim (shows reply text is) [
    | inl (bytes, same) ↦ absurd (no_object bytes (subst (IsReplyTo o) same kind))
    | inr (inl same) ↦ absurd (no_absence (subst (IsReplyTo o) same kind))
    | inr (inr (names, same)) ↦ (names, subst (Tells c o) same tells, cc (is, ap shown_by same))
  ]

-- what an operation owes is one text
pub one_reply : (c : Contents) (o : Op) (shown owed : Reply) (one other : List ℕ) → IsReplyTo o shown → Tells c o shown → IsReplyTo o owed → Tells c o owed → shown_by shown ≡ Some one → shown_by owed ≡ Some other → one ≡ other
one_reply c (Clock moment) shown owed one other kind tells kind' tells' is is' = absurd (nothing_shown c (Clock moment) shown one kind tells is (λ bytes no. no) (λ no. no) (λ names no. no))
one_reply c (Put k bytes) shown owed one other kind tells kind' tells' is is' = absurd (nothing_shown c (Put k bytes) shown one kind tells is (λ bytes no. no) (λ no. no) (λ names no. no))
one_reply c (Delete k) shown owed one other kind tells kind' tells' is is' = absurd (nothing_shown c (Delete k) shown one kind tells is (λ bytes no. no) (λ no. no) (λ names no. no))
one_reply c (Get k) shown owed one other kind tells kind' tells' is is' =
    object_shown c (Get k) shown one kind tells is (c (key_text k)) (λ bytes found. found) (λ none. none) (λ names no. no)
    ∙ sym (object_shown c (Get k) owed other kind' tells' is' (c (key_text k)) (λ bytes found. found) (λ none. none) (λ names no. no))
one_reply c (GetRange k start len) shown owed one other kind tells kind' tells' is is' =
    let part : Option (List ℕ) = option_map (range_of start len) (c (key_text k)) in
    object_shown c (GetRange k start len) shown one kind tells is part (λ bytes found. found) (λ none. ap (option_map (range_of start len)) none) (λ names no. no)
    ∙ sym (object_shown c (GetRange k start len) owed other kind' tells' is' part (λ bytes found. found) (λ none. ap (option_map (range_of start len)) none) (λ names no. no))
one_reply c (RootPage after limit) shown owed one other kind tells kind' tells' is is' =
    let own = names_shown c (RootPage after limit) shown one kind tells is (λ bytes no. no) (λ no. no) in
    let due = names_shown c (RootPage after limit) owed other kind' tells' is' (λ bytes no. no) (λ no. no) in
    own.2 ∙ ap names_text (same_page c [] after limit own.0 due.0 [] own.1 due.1) ∙ sym due.2
one_reply c (BlockPage ulid after limit) shown owed one other kind tells kind' tells' is is' =
    let own = names_shown c (BlockPage ulid after limit) shown one kind tells is (λ bytes no. no) (λ no. no) in
    let due = names_shown c (BlockPage ulid after limit) owed other kind' tells' is' (λ bytes no. no) (λ no. no) in
    own.2 ∙ ap names_text (same_page c (text_of ulid) after limit own.0 due.0 [] own.1 due.1) ∙ sym due.2

-- a reply of the operation's kind that shows what stands is no lie
pub no_lie : (before : List Entry) (e : Entry) (x y : ℕ) → IsReplyTo e.op e.reply → Tells (stands before) e.op e.reply → ¬ IsLie before e x y
no_lie before e x y kind tells (reply, one, other, kind', tells', shown, owed, differ) = same_text one other x y (one_reply (stands before) e.op e.reply reply one other kind tells kind' tells' shown owed) differ
