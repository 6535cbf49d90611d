-- Which names a shelf was asked, and which files of a block these are.
use Rattle.std.proofs.Common.{◌≡◌, ℕ, zero, suc, ◌+◌, List, [], ◌∷◌, ◌++◌, Option, None, Some, Result, Ok, Err, refl, sym, ap, subst, ◌∙◌, inl, inr, arith}
use Rattle.std.specs.Prelude.{IfSome, IsErrAnd}
use Rattle.std.proofs.lemmas.List.{append-nil, append_assoc}
use Rattle.block_keys.specs.declared.key.Key.{Key}
use Rattle.block_keys.specs.declared.key.Key.TheVariants.{Segment}
use Rattle.block_keys.specs.KeyText.{key_text}
use Rattle.bucket_core.specs.Asking.{Asks}
use Rattle.bucket_core.specs.Told.{ShelfTold}
use Rattle.block_loading.specs.Loading.{key_after, names_after}
use Rattle.block_loading.specs.LoadReading.{AsksFile}
use Rattle.block_loading.specs.declared.load_refusal.LoadRefusal.{LoadRefusal}

pub error_is : {X : Type 0} (r : Result X LoadRefusal) (e : LoadRefusal) → IsErrAnd r (λ d. d ≡ e) → r ≡ Err e
error_is (Ok x) e is = absurd is
error_is (Err d) e is = ap (λ (c : LoadRefusal). Err c) is

-- ---- the names of files

pub names_join : (ulid before a b : ℕ) → names_after ulid before (a + b) ≡ names_after ulid before a ++ names_after ulid (before + a) b
unfolding names_after
names_join ulid before zero b =
    let all : 0 + b ≡ b = omega arith in
    let here : before ≡ before + 0 = omega arith in
    ap (names_after ulid before) all ∙ ap (λ (n : ℕ). names_after ulid n b) here
names_join ulid before (suc a) b =
    let more : suc a + b ≡ suc (a + b) = omega arith in
    let there : suc before + a ≡ before + suc a = omega arith in
    ap (names_after ulid before) more ∙ ap (λ (names : List (List ℕ)). key_text (key_after ulid before) ∷ names) (names_join ulid (suc before) a b ∙ ap (λ (n : ℕ). names_after ulid (suc before) a ++ names_after ulid n b) there)

pub names_one : (ulid before : ℕ) → names_after ulid before 1 ≡ key_text (key_after ulid before) ∷ []
unfolding names_after
names_one ulid before = refl

pub segment_key : (ulid number : ℕ) → key_after ulid (2 + number) ≡ Segment ulid (number + 1)
segment_key ulid number = let there : 2 + number ≡ suc (suc number) = omega arith in ap (key_after ulid) there

-- one segment more
pub segment_more : (ulid number : ℕ) → names_after ulid 2 (number + 1) ≡ names_after ulid 2 number ++ key_text (Segment ulid (number + 1)) ∷ []
segment_more ulid number = names_join ulid 2 number 1 ∙ ap (λ (names : List (List ℕ)). names_after ulid 2 number ++ names) (names_one ulid (2 + number) ∙ ap (λ (key : Key). key_text key ∷ []) (segment_key ulid number))

-- the meta, the index, and then segments
pub names_all : (ulid count : ℕ) → (names_after ulid 0 1 ++ names_after ulid 1 1) ++ names_after ulid 2 count ≡ names_after ulid 0 (2 + count)
names_all ulid count = ap (λ (names : List (List ℕ)). names ++ names_after ulid 2 count) (sym (names_join ulid 0 1 1)) ∙ sym (names_join ulid 0 2 count)

-- ---- what was asked

none_since : (told : Option (List (List ℕ))) → IfSome told (λ before. told ≡ Some (before ++ []))
none_since None = tt
none_since (Some before) = ap (λ (names : List (List ℕ)). Some names) (sym (append-nil before))

same_since : (old new : Option (List (List ℕ))) → new ≡ old → IfSome old (λ before. new ≡ Some (before ++ []))
same_since None new same = tt
same_since (Some before) new same = same ∙ ap (λ (names : List (List ℕ)). Some names) (sym (append-nil before))

then_since : (old mid new : Option (List (List ℕ))) (first second : List (List ℕ)) → IfSome old (λ before. mid ≡ Some (before ++ first)) → IfSome mid (λ before. new ≡ Some (before ++ second)) → IfSome old (λ before. new ≡ Some (before ++ (first ++ second)))
then_since None mid new first second one other = tt
then_since (Some before) mid new first second one other =
    subst (λ (told : Option (List (List ℕ))). IfSome told (λ names. new ≡ Some (names ++ second))) one other ∙ ap (λ (names : List (List ℕ)). Some names) (append_assoc before first second)

module _ {S : Type 0} (tells : S → ShelfTold) where
  -- without a call none is asked
  pub asks_none : (s : S) → Asks (tells s).asked (tells s).asked []
  asks_none s = none_since (tells s).asked

  -- nor by a call that was not noted
  pub asks_same : (old new : S) → (tells new).asked ≡ (tells old).asked → Asks (tells old).asked (tells new).asked []
  asks_same old new same = same_since (tells old).asked (tells new).asked same

  pub asks_first : (s : S) (ulid before : ℕ) → Asks (tells s).asked (tells s).asked (names_after ulid before 0)
  unfolding names_after
  asks_first s ulid before = none_since (tells s).asked

  pub asks_then : (old mid new : S) (first second : List (List ℕ)) → Asks (tells old).asked (tells mid).asked first → Asks (tells mid).asked (tells new).asked second → Asks (tells old).asked (tells new).asked (first ++ second)
  asks_then old mid new first second one other = then_since (tells old).asked (tells mid).asked (tells new).asked first second one other

  pub asks_as : (old new : S) (names others : List (List ℕ)) → Asks (tells old).asked (tells new).asked names → names ≡ others → Asks (tells old).asked (tells new).asked others
  asks_as old new names others asks same = subst (Asks (tells old).asked (tells new).asked) same asks

  -- ---- one file

  -- the call that answered it asked for it
  pub file_asked : {X : Type 0} (old new : S) (key : Key) (x : X) → AsksFile {X = X} tells old new key (Ok x) → Asks (tells old).asked (tells new).asked (key_text key ∷ [])
  file_asked old new key x (inl asks) = asks
  file_asked old new key x (inr (asks, never)) = absurd cc

  pub file_stopped : {X Y : Type 0} (old new : S) (key : Key) (e : LoadRefusal) (r : Result Y LoadRefusal) → IsErrAnd r (λ d. d ≡ e) → AsksFile {X = X} tells old new key (Err e) → AsksFile tells old new key r
  file_stopped old new key e r is (inl asks) = inl asks
  file_stopped old new key e (Ok y) is (inr (asks, none)) = absurd is
  file_stopped old new key e (Err d) is (inr (asks, none)) = inr (asks, cc)
