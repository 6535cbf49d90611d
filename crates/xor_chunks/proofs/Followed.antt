-- What is left behind a sample that was read, and that no time behind it depends on its pattern.
use Rattle.std.proofs.Common.{◌≡◌, ℕ, zero, suc, Bool, true, false, List, [], ◌∷◌, ◌++◌, Result, Ok, Err, ℤ, pos, ◌+ℤ◌, refl, sym, ap, ◌∙◌, append_assoc}
use Rattle.base.specs.Reading.{◌>>=◌, ◌>>◌, unless}
use Rattle.base.specs.Members.{members_at}
use Rattle.base.proofs.Binds.{ok_is, err_is}
use Rattle.base.proofs.Bound.{OfValue, of_ok, of_err, of_weaker, of_bind, of_unless}
use Rattle.label_sets.specs.declared.sample.Sample.{Sample}
use Rattle.xor_chunks.specs.State.{State, with_pattern}
use Rattle.xor_chunks.specs.declared.refusal.XorRefusal.{XorRefusal}
use Rattle.xor_chunks.specs.declared.refusal.XorRefusal.TheVariants.{OutOfRange}
use Rattle.wire_bytes.specs.Bits.{bits_of, EndWith}
use Rattle.xor_chunks.specs.Samples.{sample_of}
use Rattle.xor_chunks.specs.Window.{Window, width_of, is_inside}
use Rattle.xor_chunks.specs.Steps.{take_at, within_at, opened_at, value_at, time_after, follow_at, next_at}
use Rattle.xor_chunks.specs.Data.{sample_at, others_at}
use Rattle.xor_chunks.specs.Spans.{with_end, end_at}
use Rattle.xor_chunks.proofs.Takes.{taken}

-- ---- what is left

end_behind : (whole bits end : List Bool) → EndWith whole bits → EndWith bits end → EndWith whole end
end_behind _ _ end (front, e) (more, f) = (front ++ more, e ∙ ap (λ l. front ++ l) f ∙ sym (append_assoc front more end))

taken_leaves : (whole bits : List Bool) (count : ℕ) → EndWith whole bits → OfValue (take_at count bits) (λ x. EndWith whole x.1)
taken_leaves whole bits count e = of_weaker (λ x h. end_behind whole bits x.1 e (bits_of count x.0, h.0)) (taken _ _)

within_leaves : (pattern : ℕ) (window : Window) (whole bits : List Bool) → EndWith whole bits → OfValue (within_at pattern window bits) (λ x. EndWith whole x.1)
unfolding within_at
within_leaves _ _ _ _ e = of_bind _ (taken_leaves _ _ _ e) (λ field h. of_ok h)

opened_leaves : (pattern : ℕ) (whole bits : List Bool) → EndWith whole bits → OfValue (opened_at pattern bits) (λ x. EndWith whole x.1)
unfolding opened_at
opened_leaves _ _ _ e =
    of_bind _ (taken_leaves _ _ 5 e) (λ lead h. of_bind _ (taken_leaves _ _ 6 h) (λ width k. of_bind _ (taken_leaves _ _ _ k) (λ field l. of_ok l)))

value_leaves : (pattern : ℕ) (window : Window) (bits : List Bool) → OfValue (value_at pattern window bits) (λ x. EndWith bits x.1)
unfolding value_at
value_leaves _ _ [] = of_err
value_leaves _ _ (false ∷ bits) = of_ok (false ∷ [], refl)
value_leaves _ _ (true ∷ []) = of_err
value_leaves _ _ (true ∷ false ∷ bits) = within_leaves _ _ _ _ (true ∷ false ∷ [], refl)
value_leaves _ _ (true ∷ true ∷ bits) = opened_leaves _ _ _ (true ∷ true ∷ [], refl)

any_time : (r : Result (ℤ × ℕ) XorRefusal) → OfValue r (λ _. Unit {0})
any_time r = record { holds = λ x e. tt }

-- the sample that a value makes at a time
abbrev state_after : (ℕ × Window) × List Bool → ℤ × ℕ → Result (State × List Bool) XorRefusal
state_after value after = Ok (record { time = after.0; delta = after.1; pattern = value.0.0; window = value.0.1 }, value.1)

follow_leaves : (last : State) (change : ℤ) (bits : List Bool) → OfValue (follow_at last change bits) (λ x. EndWith bits x.1)
unfolding follow_at
follow_leaves last change _ =
    of_bind _ (value_leaves _ _ _) (λ value h. of_unless (is_inside value.0.1) OutOfRange (time_after last.time (pos last.delta +ℤ change) >>= state_after value)
    (λ inside. of_bind (state_after value) (any_time _) (λ after a. of_ok h)))

-- a sample was read from bits that end with those behind it
pub followed_end : (whole bits left : List Bool) (first second : State) (change : ℤ) → bits ≡ whole → follow_at first change bits ≡ Ok (second, left) → EndWith whole left
followed_end _ _ left _ second _ same e =
    let h = (follow_leaves _ _ _).holds (second, left) e in
    (h.0, sym same ∙ h.1)

-- ---- a step, but for patterns

abbrev windows : Result ((ℕ × Window) × List Bool) XorRefusal → Result (Window × List Bool) XorRefusal
windows read = read >>= λ x. Ok (x.0.1, x.1)

same_field : (one other : ℕ → ℕ) (window : Window) (r : Result (ℕ × List Bool) XorRefusal) → windows (r >>= λ field. Ok ((one field.0, window), field.1)) ≡ windows (r >>= λ field. Ok ((other field.0, window), field.1))
same_field _ _ _ (Ok x) = refl
same_field _ _ _ (Err e) = refl

same_behind : (r : Result (ℕ × List Bool) XorRefusal) (one other : ℕ × List Bool → Result ((ℕ × Window) × List Bool) XorRefusal) → ((x : ℕ × List Bool) → windows (one x) ≡ windows (other x)) → windows (r >>= one) ≡ windows (r >>= other)
same_behind (Ok x) _ _ same = same x
same_behind (Err e) _ _ same = refl

same_within : (p q : ℕ) (window : Window) (bits : List Bool) → windows (within_at p window bits) ≡ windows (within_at q window bits)
unfolding within_at
same_within p q _ _ = same_field _ _ _ _

same_opened : (p q : ℕ) (bits : List Bool) → windows (opened_at p bits) ≡ windows (opened_at q bits)
unfolding opened_at
same_opened p q _ = same_behind _ _ _ (λ lead. same_behind (take_at 6 lead.1) _ _ (λ width.
    let window : Window = record { lead = lead.0; width = width_of width.0 } in
    same_field _ _ _ _))

same_value : (p q : ℕ) (window : Window) (bits : List Bool) → windows (value_at p window bits) ≡ windows (value_at q window bits)
unfolding value_at
same_value p q _ [] = refl
same_value p q _ (false ∷ bits) = refl
same_value p q _ (true ∷ []) = refl
same_value p q _ (true ∷ false ∷ bits) = same_within p q _ _
same_value p q _ (true ∷ true ∷ bits) = same_opened p q _

abbrev unpatterned : Result (State × List Bool) XorRefusal → Result (State × List Bool) XorRefusal
unpatterned read = read >>= λ x. Ok (with_pattern 0 x.0, x.1)

-- what becomes of a value
abbrev state_in : Bool → Result (ℤ × ℕ) XorRefusal → (ℕ × Window) × List Bool → Result (State × List Bool) XorRefusal
state_in inside times value = unless inside OutOfRange >> (times >>= state_after value)

no_pattern : (inside : Bool) (times : Result (ℤ × ℕ) XorRefusal) (pattern : ℕ) (window : Window) (bits : List Bool) → unpatterned (state_in inside times ((pattern, window), bits)) ≡ state_in inside times ((0, window), bits)
no_pattern true (Ok x) _ _ _ = refl
no_pattern true (Err e) _ _ _ = refl
no_pattern false _ _ _ _ = refl

same_state : (times : Result (ℤ × ℕ) XorRefusal) (one other : Result ((ℕ × Window) × List Bool) XorRefusal) → windows one ≡ windows other
    → unpatterned (one >>= λ value. state_in (is_inside value.0.1) times value) ≡ unpatterned (other >>= λ value. state_in (is_inside value.0.1) times value)
same_state times (Ok ((p, w), b)) (Ok ((q, v), c)) e =
    let parts = ok_is {E = XorRefusal} _ _ e in
    let window = ap (λ x. x.0) parts in
    let bits = ap (λ x. x.1) parts in
    no_pattern _ _ p w b ∙ ap (λ x. state_in (is_inside x) times ((0, x), b)) window ∙ ap (λ x. state_in (is_inside v) times ((0, v), x)) bits ∙ sym (no_pattern _ _ q v c)
same_state _ (Ok x) (Err d) e = absurd cc
same_state _ (Err d) (Ok x) e = absurd cc
same_state _ (Err d) (Err f) e = ap (λ x. Err x) (err_is {A = Window × List Bool} d f e)

same_follow : (p q : ℕ) (last : State) (change : ℤ) (bits : List Bool) → unpatterned (follow_at (with_pattern p last) change bits) ≡ unpatterned (follow_at (with_pattern q last) change bits)
unfolding follow_at
same_follow p q _ _ _ = same_state _ _ _ (same_value p q _ _)

same_next : (p q : ℕ) (last : State) (r : Result (ℤ × List Bool) XorRefusal) → unpatterned (r >>= λ change. follow_at (with_pattern p last) change.0 change.1) ≡ unpatterned (r >>= λ change. follow_at (with_pattern q last) change.0 change.1)
same_next p q last (Ok x) = same_follow p q last _ _
same_next p q _ (Err e) = refl

next_same : (p q : ℕ) (last : State) (bits : List Bool) → unpatterned (next_at (with_pattern p last) bits) ≡ unpatterned (next_at (with_pattern q last) bits)
unfolding next_at
next_same p q last bits = same_next p q last _

-- ---- the end of samples

abbrev end_from : ℕ → State × List Bool → Result (ℤ × List Bool) XorRefusal
end_from count from = end_at count from.0 from.1

-- a sample before those that are read
abbrev pushed : State → List Sample × (State × List Bool) → Result (List Sample × (State × List Bool)) XorRefusal
pushed s others = Ok (sample_of s ∷ others.0, others.1)

-- the samples, and the bits after them
abbrev plain : List Sample × (State × List Bool) → Result (List Sample × List Bool) XorRefusal
plain others = Ok (others.0, others.1.1)

abbrev sampled : State × List Bool → Result (Sample × (State × List Bool)) XorRefusal
sampled next = Ok (sample_of next.0, next)

abbrev with_others : ℕ → Sample × (State × List Bool) → Result (List Sample × (State × List Bool)) XorRefusal
with_others n first = ◌>>=◌ {A = List Sample × (State × List Bool)} (members_at sample_at n first.1) (λ others. Ok (first.0 ∷ others.0, others.1))

end_pushed : (time : ℤ) (s : State) (r : Result (List Sample × (State × List Bool)) XorRefusal) → with_end time ((r >>= pushed s) >>= plain) ≡ with_end s.time (r >>= plain)
end_pushed _ s (Ok x) = refl
end_pushed _ s (Err e) = refl

end_stepped : (time : ℤ) (n : ℕ) (r : Result (State × List Bool) XorRefusal) → with_end time (((r >>= sampled) >>= with_others n) >>= plain) ≡ (r >>= end_from n)
unfolding others_at
end_stepped _ n (Ok (s, bits)) = end_pushed _ s _
end_stepped _ n (Err e) = refl

end_step : (time : ℤ) (n : ℕ) (last : State) (bits : List Bool) → with_end time (others_at (suc n) last bits) ≡ (next_at last bits >>= end_from n)
unfolding others_at members_at sample_at
end_step _ n _ _ = end_stepped _ n _

over_patterns : (f : State × List Bool → Result (ℤ × List Bool) XorRefusal) (r t : Result (State × List Bool) XorRefusal) → unpatterned r ≡ unpatterned t
    → ((p q : ℕ) (s : State) (bits : List Bool) → f (with_pattern p s, bits) ≡ f (with_pattern q s, bits)) → (r >>= f) ≡ (t >>= f)
over_patterns f (Ok (s, b)) (Ok (u, c)) e same =
    let parts = ok_is {E = XorRefusal} _ _ e in
    let state = ap (λ x. x.0) parts in
    let bits = ap (λ x. x.1) parts in
    same s.pattern 0 s b ∙ ap (λ x. f (x, b)) state ∙ ap (λ x. f (with_pattern 0 u, x)) bits ∙ same 0 u.pattern u c
over_patterns f (Ok x) (Err d) e same = absurd cc
over_patterns f (Err d) (Ok x) e same = absurd cc
over_patterns f (Err d) (Err c) e same = ap (λ x. Err x) (err_is {A = State × List Bool} d c e)

end_same : (n : ℕ) (time : ℤ) (p q : ℕ) (s : State) (bits : List Bool) → with_end time (others_at n (with_pattern p s) bits) ≡ with_end time (others_at n (with_pattern q s) bits)
unfolding others_at members_at
end_same zero time p q s _ = refl
end_same (suc n) time p q s _ =
    end_step _ n _ _ ∙ over_patterns _ _ _ (next_same p q s _) (λ i j u left. end_same n u.time i j u left)
    ∙ sym (end_step _ n _ _)

-- ---- a sample that is passed over

pub passed_on : (n pattern : ℕ) (last after : State) (bits left : List Bool) → next_at last bits ≡ Ok (with_pattern pattern after, left) → end_at (suc n) last bits ≡ end_at n after left
passed_on n _ _ after _ _ e =
    end_step _ n _ _ ∙ ap (λ r. r >>= end_from n) e ∙ end_same n _ _ _ after _
