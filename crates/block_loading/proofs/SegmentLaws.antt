-- The segments of a block, read one after another.
use Rattle.std.proofs.Common.{◌≡◌, ℕ, zero, suc, ◌+◌, ◌-◌, ◌<◌, ◌≤◌, List, [], ◌∷◌, ◌++◌, length, sum_by, Bool, true, false, cond, Result, Ok, Err, Some, refl, sym, ap, ap₂, subst, ◌∙◌, arith, ◌⊎◌, inl, inr}
use Rattle.std.specs.Prelude.{slice_get, nat_lt}
use Rattle.std.proofs.lemmas.Bool.Decides.{nat_tests}
use Rattle.std.proofs.lemmas.List.{append_assoc, append-nil}
use Rattle.std.proofs.lemmas.List.Sums.{sum_by-cons}
use Rattle.base.specs.Reading.{◌>>=◌}
use Rattle.base.proofs.Binds.{bind_ok, bind_err, ok_is, err_is, cond_ok, cond_is}
use Rattle.block_keys.specs.declared.key.Key.{Key}
use Rattle.block_keys.specs.declared.key.Key.TheVariants.{Segment}
use Rattle.block_content.specs.declared.check_refusal.CheckRefusal.TheVariants.{TooLarge}
use Rattle.bucket_core.specs.Contents.{Contents}
use Rattle.block_loading.specs.Loading.{HasFile, HasSegments, load_limit}
use Rattle.block_loading.specs.LoadReading.{fit_behind, file_at, segment_at, segments_at}
use Rattle.block_loading.specs.declared.load_refusal.LoadRefusal.{LoadRefusal}
use Rattle.block_loading.specs.declared.load_refusal.LoadRefusal.TheVariants.{Refused}
use Rattle.block_loading.proofs.FileLaws.{file_found, file_again}

-- what was read before, and what is read now
abbrev pub with_front : List (List ℕ) → Result (List (List ℕ)) LoadRefusal → Result (List (List ℕ)) LoadRefusal
with_front front read = read >>= λ x. Ok (front ++ x)

front_none : (read : Result (List (List ℕ)) LoadRefusal) → read ≡ with_front [] read
front_none (Ok x) = refl
front_none (Err e) = refl

behind_one : (front : List (List ℕ)) (one : List ℕ) (others : Result (List (List ℕ)) LoadRefusal) → with_front front (others >>= λ xs. Ok (one ∷ xs)) ≡ with_front (front ++ one ∷ []) others
behind_one front one (Err e) = refl
behind_one front one (Ok xs) = ap (λ (ys : List (List ℕ)). Ok ys) (sym (append_assoc front (one ∷ []) xs))

front_more : (front : List (List ℕ)) (one : List ℕ) (first : Result (List ℕ) LoadRefusal) (others : List ℕ → Result (List (List ℕ)) LoadRefusal) → first ≡ Ok one → with_front front (first >>= λ x. (others x >>= λ xs. Ok (x ∷ xs))) ≡ with_front (front ++ one ∷ []) (others one)
front_more front one first others read = rw read (behind_one front one (others one))

front_stop : (front : List (List ℕ)) (e : LoadRefusal) (first : Result (List ℕ) LoadRefusal) (others : List ℕ → Result (List (List ℕ)) LoadRefusal) → first ≡ Err e → with_front front (first >>= λ x. (others x >>= λ xs. Ok (x ∷ xs))) ≡ Err e
front_stop front e (Ok x) others refused = absurd cc
front_stop front e (Err d) others refused = cc

-- ---- one segment, behind others

fits : (before : ℕ) (bytes : List ℕ) → nat_lt load_limit (before + length bytes) ≡ false → before + length bytes ≤ load_limit
fits before bytes e = grind (arith, nat_tests)

fits_again : (before : ℕ) (bytes : List ℕ) → before + length bytes ≤ load_limit → nat_lt load_limit (before + length bytes) ≡ false
fits_again before bytes le = grind (arith, nat_tests)

passes : (before : ℕ) (bytes : List ℕ) → nat_lt load_limit (before + length bytes) ≡ true → load_limit < before + length bytes
passes before bytes e = grind (arith, nat_tests)

pub passes_again : (before : ℕ) (bytes : List ℕ) → load_limit < before + length bytes → nat_lt load_limit (before + length bytes) ≡ true
passes_again before bytes lt = grind (arith, nat_tests)

-- with those before it, it passes the limit of all
pub record IsOver (told : Contents) (key : Key) (before : ℕ) : Type 0 where
  pub bytes : List ℕ
  pub file : HasFile told key bytes
  pub much : load_limit < before + length bytes

module _ (told : Contents) (key : Key) (before : ℕ) where
  pub segment_is : (bytes : List ℕ) → file_at told key ≡ Ok bytes → segment_at told key before ≡ fit_behind key before bytes
  unfolding segment_at
  segment_is bytes read = rw read refl

  pub segment_unread : (e : LoadRefusal) → file_at told key ≡ Err e → segment_at told key before ≡ Err e
  unfolding segment_at
  segment_unread e refused = rw refused refl

  pub segment_found : (bytes : List ℕ) → segment_at told key before ≡ Ok bytes → HasFile told key bytes × (before + length bytes ≤ load_limit)
  unfolding segment_at
  segment_found bytes e =
      let read = bind_ok _ _ _ e in
      let fit = cond_ok (nat_lt load_limit (before + length read.0)) (Refused (TooLarge key)) (Ok read.0) bytes read.2 in
      let same : read.0 ≡ bytes = ok_is {E = LoadRefusal} read.0 bytes fit.1 in
      (subst (HasFile told key) same (file_found told key read.0 read.1), subst (λ (b : List ℕ). before + length b ≤ load_limit) same (fits before read.0 fit.0))

  pub segment_again : (bytes : List ℕ) → HasFile told key bytes → before + length bytes ≤ load_limit → segment_at told key before ≡ Ok bytes
  segment_again bytes is le = segment_is bytes (file_again told key bytes is) ∙ ap (λ (b : Bool). cond b (Err (Refused (TooLarge key))) (Ok bytes)) (fits_again before bytes le)

  pub segment_over : IsOver told key before → segment_at told key before ≡ Err (Refused (TooLarge key))
  segment_over is = segment_is is.bytes (file_again told key is.bytes is.file) ∙ ap (λ (b : Bool). cond b (Err (Refused (TooLarge key))) (Ok is.bytes)) (passes_again before is.bytes is.much)

  -- what the code tests of what it read
  pub segment_fits : (segment lent : List ℕ) (bytes : ℕ) → file_at told key ≡ Ok segment → lent ≡ segment → bytes ≡ before + length lent → bytes ≤ load_limit → segment_at told key before ≡ Ok segment
  segment_fits segment lent bytes read lends counted le = segment_again segment (file_found told key segment read) (omega (arith, le, counted, ap length lends))

  pub segment_passes : (segment lent : List ℕ) (bytes : ℕ) → file_at told key ≡ Ok segment → lent ≡ segment → bytes ≡ before + length lent → load_limit < bytes → segment_at told key before ≡ Err (Refused (TooLarge key))
  segment_passes segment lent bytes read lends counted lt = segment_over (record { bytes = segment; file = file_found told key segment read; much = omega (arith, lt, counted, ap length lends) })

  pub segment_refused : (e : LoadRefusal) → segment_at told key before ≡ Err e → (file_at told key ≡ Err e) ⊎ (IsOver told key before × (e ≡ Refused (TooLarge key)))
  unfolding segment_at
  segment_refused e h =
      elim (bind_err _ _ _ h) [
        | inl refused ↦ inl refused
        | inr (bytes, read, over) ↦
            elim (cond_is (nat_lt load_limit (before + length bytes)) (Err (Refused (TooLarge key))) (Ok bytes) (Err e) over) [
              | inl (much, same) ↦ inr (record { bytes = bytes; file = file_found told key bytes read; much = passes before bytes much }, err_is {A = List ℕ} e (Refused (TooLarge key)) (sym same))
              | inr (few, same) ↦ absurd cc
            ]
      ]

no_more : (n : ℕ) → n + 0 ≡ n
no_more n = omega arith

-- how many bytes these have together
abbrev pub size_of : List (List ℕ) → ℕ
size_of segments = sum_by length segments

module _ (told : Contents) (ulid : ℕ) where
  -- ---- in the loop

  step_is : (number before left : ℕ) → 0 < left → segments_at told ulid number before left ≡ (segment_at told (Segment ulid number) before >>= λ x. (segments_at told ulid (number + 1) (before + length x) (left - 1) >>= λ xs. Ok (x ∷ xs)))
  unfolding segments_at
  step_is number before zero some = absurd (omega (arith, some))
  step_is number before (suc left) some =
      let next : suc number ≡ number + 1 = omega arith in
      let fewer : left ≡ suc left - 1 = omega arith in
      ap (λ (n : ℕ). segment_at told (Segment ulid number) before >>= λ x. (segments_at told ulid n (before + length x) left >>= λ xs. Ok (x ∷ xs))) next
      ∙ ap (λ (n : ℕ). segment_at told (Segment ulid number) before >>= λ x. (segments_at told ulid (number + 1) (before + length x) n >>= λ xs. Ok (x ∷ xs))) fewer

  pub read_start : (last : ℕ) → segments_at told ulid 1 0 last ≡ with_front [] (segments_at told ulid (0 + 1) 0 (last - 0))
  read_start last = let all : last ≡ last - 0 = omega arith in front_none (segments_at told ulid 1 0 last) ∙ ap (λ (n : ℕ). with_front [] (segments_at told ulid 1 0 n)) all

  pub read_step : (last i bytes more : ℕ) (front : List (List ℕ)) (one : List ℕ) → segments_at told ulid 1 0 last ≡ with_front front (segments_at told ulid (i + 1) bytes (last - i)) → i < last → segment_at told (Segment ulid (i + 1)) bytes ≡ Ok one → more ≡ bytes + length one
      → segments_at told ulid 1 0 last ≡ with_front (front ++ one ∷ []) (segments_at told ulid ((i + 1) + 1) more (last - (i + 1)))
  read_step last i bytes more front one far lt read added =
      let less : (last - i) - 1 ≡ last - (i + 1) = omega arith in
      far ∙ ap (with_front front) (step_is (i + 1) bytes (last - i) (omega (arith, lt))) ∙ front_more front one (segment_at told (Segment ulid (i + 1)) bytes) (λ (x : List ℕ). segments_at told ulid ((i + 1) + 1) (bytes + length x) ((last - i) - 1)) read
      ∙ ap (λ (n : ℕ). with_front (front ++ one ∷ []) (segments_at told ulid ((i + 1) + 1) (bytes + length one) n)) less
      ∙ ap (λ (n : ℕ). with_front (front ++ one ∷ []) (segments_at told ulid ((i + 1) + 1) n (last - (i + 1)))) (sym added)

  pub read_stop : (last i bytes : ℕ) (front : List (List ℕ)) (e : LoadRefusal) → segments_at told ulid 1 0 last ≡ with_front front (segments_at told ulid (i + 1) bytes (last - i)) → i < last → segment_at told (Segment ulid (i + 1)) bytes ≡ Err e → segments_at told ulid 1 0 last ≡ Err e
  read_stop last i bytes front e far lt refused =
      far ∙ ap (with_front front) (step_is (i + 1) bytes (last - i) (omega (arith, lt))) ∙ front_stop front e (segment_at told (Segment ulid (i + 1)) bytes) (λ (x : List ℕ). segments_at told ulid ((i + 1) + 1) (bytes + length x) ((last - i) - 1)) refused

  pub read_end : (last i bytes : ℕ) (front : List (List ℕ)) → segments_at told ulid 1 0 last ≡ with_front front (segments_at told ulid (i + 1) bytes (last - i)) → last ≤ i → segments_at told ulid 1 0 last ≡ Ok front
  unfolding segments_at
  read_end last i bytes front far le =
      let none : last - i ≡ 0 = omega (arith, le) in
      far ∙ ap (λ (n : ℕ). with_front front (segments_at told ulid (i + 1) bytes n)) none ∙ ap (λ (xs : List (List ℕ)). Ok xs) (append-nil front)

  -- ---- what they are

  -- segments under their keys, of which the first has this number, behind others that have so many bytes
  record HasFrom (number before : ℕ) (segments : List (List ℕ)) : Type 0 where
    files : (place : ℕ) (bytes : List ℕ) → slice_get segments place ≡ Some bytes → HasFile told (Segment ulid (number + place)) bytes
    together : before + size_of segments ≤ load_limit

  has_none : (number before : ℕ) → before ≤ load_limit → HasFrom number before []
  has_none number before le = record { files = λ place bytes e. absurd cc; together = omega (arith, le) }

  more_files : (number before : ℕ) (one : List ℕ) (others : List (List ℕ)) → HasFile told (Segment ulid number) one → HasFrom (suc number) (before + length one) others → (place : ℕ) (bytes : List ℕ) → slice_get (one ∷ others) place ≡ Some bytes → HasFile told (Segment ulid (number + place)) bytes
  more_files number before one others is are zero bytes e =
      let same : one ≡ bytes = cc in
      let here : number ≡ number + 0 = omega arith in
      subst (λ (n : ℕ). HasFile told (Segment ulid n) bytes) here (subst (HasFile told (Segment ulid number)) same is)
  more_files number before one others is are (suc place) bytes e =
      let there : suc number + place ≡ number + suc place = omega arith in
      subst (λ (n : ℕ). HasFile told (Segment ulid n) bytes) there (are.files place bytes e)

  has_more : (number before : ℕ) (one : List ℕ) (others : List (List ℕ)) → HasFile told (Segment ulid number) one → HasFrom (suc number) (before + length one) others → HasFrom number before (one ∷ others)
  has_more number before one others is are = let le = are.together in record { files = more_files number before one others is are; together = omega (arith, le, sum_by-cons length one others) }

  has_first : (number before : ℕ) (one : List ℕ) (others : List (List ℕ)) → HasFrom number before (one ∷ others) → segment_at told (Segment ulid number) before ≡ Ok one
  has_first number before one others are =
      let here : number + 0 ≡ number = omega arith in
      let le = are.together in
      segment_again told (Segment ulid number) before one (subst (λ (n : ℕ). HasFile told (Segment ulid n) one) here (are.files 0 one refl)) (omega (arith, le, sum_by-cons length one others))

  has_others : (number before : ℕ) (one : List ℕ) (others : List (List ℕ)) → HasFrom number before (one ∷ others) → HasFrom (suc number) (before + length one) others
  has_others number before one others are =
      let le = are.together in
      record {
        files = λ place bytes e. let there : number + suc place ≡ suc number + place = omega arith in subst (λ (n : ℕ). HasFile told (Segment ulid n) bytes) there (are.files (suc place) bytes e);
        together = omega (arith, le, sum_by-cons length one others);
      }

  from_found : (number before count : ℕ) (segments : List (List ℕ)) → before ≤ load_limit → segments_at told ulid number before count ≡ Ok segments → HasFrom number before segments × (length segments ≡ count)
  unfolding segments_at
  from_found number before zero segments le e = let none : [] ≡ segments = ok_is {E = LoadRefusal} [] segments e in (subst (HasFrom number before) none (has_none number before le), ap length (sym none))
  from_found number before (suc count) segments le e =
      let first = bind_ok _ _ _ e in
      let others = bind_ok _ _ _ first.2 in
      let same : first.0 ∷ others.0 ≡ segments = ok_is {E = LoadRefusal} _ _ others.2 in
      let found = segment_found told (Segment ulid number) before first.0 first.1 in
      let are = from_found (suc number) (before + length first.0) count others.0 found.1 others.1 in
      (subst (HasFrom number before) same (has_more number before first.0 others.0 found.0 are.0), ap length (sym same) ∙ ap suc are.1)

  from_again : (number before : ℕ) (segments : List (List ℕ)) → HasFrom number before segments → segments_at told ulid number before (length segments) ≡ Ok segments
  unfolding segments_at
  from_again number before [] are = refl
  from_again number before (one ∷ others) are = rw (has_first number before one others are, from_again (suc number) (before + length one) others (has_others number before one others are)) refl

  -- the first segment that is not read
  from_refused : (number before count : ℕ) (e : LoadRefusal) → before ≤ load_limit → segments_at told ulid number before count ≡ Err e
      → (front : List (List ℕ)) × HasFrom number before front × (length front < count) × (segment_at told (Segment ulid (number + length front)) (before + size_of front) ≡ Err e)
  unfolding segments_at
  from_refused number before zero e le h = absurd cc
  from_refused number before (suc count) e le h =
      elim (bind_err _ _ _ h) [
        | inl refused ↦
            ([], has_none number before le, omega arith, ap₂ (λ (n b : ℕ). segment_at told (Segment ulid n) b) (no_more number) (no_more before) ∙ refused)
        | inr (one, read, behind) ↦
            elim (bind_err _ _ _ behind) [
              | inl refused ↦
                  let found = segment_found told (Segment ulid number) before one read in
                  let deeper = from_refused (suc number) (before + length one) count e found.1 refused in
                  let there : number + suc (length deeper.0) ≡ suc number + length deeper.0 = omega arith in
                  let size : before + size_of (one ∷ deeper.0) ≡ (before + length one) + size_of deeper.0 = omega (arith, sum_by-cons length one deeper.0) in
                  (one ∷ deeper.0, has_more number before one deeper.0 found.0 deeper.1, omega (arith, deeper.2), ap₂ (λ (n b : ℕ). segment_at told (Segment ulid n) b) there size ∙ deeper.3)
              | inr (others, more, last) ↦ absurd cc
            ]
      ]

  from_refuses : (number before count : ℕ) (front : List (List ℕ)) (e : LoadRefusal) → HasFrom number before front → length front < count → segment_at told (Segment ulid (number + length front)) (before + size_of front) ≡ Err e → segments_at told ulid number before count ≡ Err e
  unfolding segments_at
  from_refuses number before zero front e are lt refused = absurd (omega (arith, lt))
  from_refuses number before (suc count) [] e are lt refused =
      let here : number ≡ number + 0 = omega arith in
      let none : before ≡ before + 0 = omega arith in
      let first : segment_at told (Segment ulid number) before ≡ Err e = ap₂ (λ (n b : ℕ). segment_at told (Segment ulid n) b) here none ∙ refused in
      rw first refl
  from_refuses number before (suc count) (one ∷ front) e are lt refused =
      let there : suc number + length front ≡ number + suc (length front) = omega arith in
      let size : (before + length one) + size_of front ≡ before + size_of (one ∷ front) = omega (arith, sum_by-cons length one front) in
      let deeper : segments_at told ulid (suc number) (before + length one) count ≡ Err e =
      from_refuses (suc number) (before + length one) count front e (has_others number before one front are) (omega (arith, lt)) (ap₂ (λ (n b : ℕ). segment_at told (Segment ulid n) b) there size ∙ refused) in
      rw (has_first number before one front are, deeper) refl

  -- ---- from the first on

  from_first : (segments : List (List ℕ)) → HasFrom 1 0 segments → HasSegments told ulid segments
  from_first segments are =
      let le = are.together in
      record {
        files = λ place bytes e. let same : 1 + place ≡ place + 1 = omega arith in subst (λ (n : ℕ). HasFile told (Segment ulid n) bytes) same (are.files place bytes e);
        together = omega (arith, le);
      }

  to_first : (segments : List (List ℕ)) → HasSegments told ulid segments → HasFrom 1 0 segments
  to_first segments are =
      let le = are.together in
      record {
        files = λ place bytes e. let same : place + 1 ≡ 1 + place = omega arith in subst (λ (n : ℕ). HasFile told (Segment ulid n) bytes) same (are.files place bytes e);
        together = omega (arith, le);
      }

  pub segments_found : (count : ℕ) (segments : List (List ℕ)) → segments_at told ulid 1 0 count ≡ Ok segments → HasSegments told ulid segments × (length segments ≡ count)
  segments_found count segments e = let are = from_found 1 0 count segments (omega arith) e in (from_first segments are.0, are.1)

  pub segments_again : (count : ℕ) (segments : List (List ℕ)) → HasSegments told ulid segments → length segments ≡ count → segments_at told ulid 1 0 count ≡ Ok segments
  segments_again count segments are many = ap (segments_at told ulid 1 0) (sym many) ∙ from_again 1 0 segments (to_first segments are)

  -- so many segments stand in one way alone
  pub same_segments : (one other : List (List ℕ)) → HasSegments told ulid one → HasSegments told ulid other → length one ≡ length other → one ≡ other
  same_segments one other are others many = ok_is {E = LoadRefusal} one other (sym (segments_again (length other) one are many) ∙ segments_again (length other) other others refl)

  pub segments_refused : (count : ℕ) (e : LoadRefusal) → segments_at told ulid 1 0 count ≡ Err e → (number : ℕ) × (before : List (List ℕ)) × HasSegments told ulid before × (length before + 1 ≡ number) × (number ≤ count) × (segment_at told (Segment ulid number) (size_of before) ≡ Err e)
  segments_refused count e h =
      let why = from_refused 1 0 count e (omega arith) h in
      let there : length why.0 + 1 ≡ 1 + length why.0 = omega arith in
      let size : size_of why.0 ≡ 0 + size_of why.0 = omega arith in
      (length why.0 + 1, why.0, from_first why.0 why.1, refl, omega (arith, why.2), ap₂ (λ (n b : ℕ). segment_at told (Segment ulid n) b) there size ∙ why.3)

  pub segments_refuses : (count number : ℕ) (before : List (List ℕ)) (e : LoadRefusal) → HasSegments told ulid before → length before + 1 ≡ number → number ≤ count → segment_at told (Segment ulid number) (size_of before) ≡ Err e → segments_at told ulid 1 0 count ≡ Err e
  segments_refuses count number before e are at le refused =
      let there : 1 + length before ≡ number = omega (arith, at) in
      let size : 0 + size_of before ≡ size_of before = omega arith in
      from_refuses 1 0 count before e (to_first before are) (omega (arith, at, le)) (ap₂ (λ (n b : ℕ). segment_at told (Segment ulid n) b) there size ∙ refused)
