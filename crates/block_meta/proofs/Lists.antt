-- A loop over a list of values: what was read so far is what reading the front gives, and the first refused item decides.
use Rattle.std.proofs.Common.{◌≡◌, ℕ, suc, ◌+◌, ◌<◌, List, [], ◌∷◌, ◌++◌, length, take, get_or, ◌⊎◌, inl, inr, Ok, Err, All, refl, ap, ◌∙◌, arith}
use Rattle.std.proofs.lemmas.List.{take_more}
use Rattle.base.proofs.Binds.{bind_ok, ok_is}
use Rattle.serde_json.specs.Data.{Data}
use Rattle.serde_json.specs.View.{view, items_view}
use Rattle.serde_json.specs.declared.value.Value.{Value}
use Rattle.block_meta.specs.declared.refusal.MetaRefusal.{MetaRefusal}
use Rattle.block_meta.specs.declared.refusal.MetaRefusal.TheVariants.{NoMemory}
use Rattle.block_meta.specs.Members.{Read, each}
use Rattle.block_meta.specs.MetaValue.{items_value}
use Rattle.base.proofs.Lists.{split_place}

module _ {A : Type 0} (read : Data → Read A) where
  pub each_none : each read (items_view []) ≡ Ok []
  unfolding each
  each_none = refl

  -- what is read of a list that has a first is that first and the others
  each_parts : (v : Value) (vs : List Value) (all : List A) → each read (items_view (v ∷ vs)) ≡ Ok all → (y : A) × (ys : List A) × (read (view v) ≡ Ok y) × (each read (items_view vs) ≡ Ok ys) × (y ∷ ys ≡ all)
  unfolding each
  each_parts _ _ _ so_far =
      let first = bind_ok _ _ _ so_far in
      let others = bind_ok _ _ _ first.2 in
      (first.0, others.0, first.1, others.1, ok_is {E = MetaRefusal} _ _ others.2)

  each_push : (vs : List Value) (v : Value) (xs : List A) (x : A) → each read (items_view vs) ≡ Ok xs → read (view v) ≡ Ok x → each read (items_view (vs ++ v ∷ [])) ≡ Ok (xs ++ x ∷ [])
  unfolding each
  each_push [] _ _ _ so_far here = let nothing = ok_is {E = MetaRefusal} _ _ so_far in rw (here, ← nothing) refl
  each_push (w ∷ vs) v _ x so_far here = let p = each_parts w vs _ so_far in rw (p.2, each_push vs v p.1 x p.3 here) (ap (λ ys. Ok (ys ++ x ∷ [])) p.4)

  -- one item more at the end
  pub each_more : (vs : List Value) (i : ℕ) (v : Value) (xs : List A) (x : A) → i < length vs → v ≡ get_or vs i v → each read (items_view (take i vs)) ≡ Ok xs → read (view v) ≡ Ok x → each read (items_view (take (i + 1) vs)) ≡ Ok (xs ++ x ∷ [])
  each_more vs i v xs x lt at so_far here = rw (take_more vs i v lt, ← at) (each_push _ v xs x so_far here)

  each_stop : (vs rest : List Value) (v : Value) (xs : List A) (e : MetaRefusal) → each read (items_view vs) ≡ Ok xs → read (view v) ≡ Err e → each read (items_view (vs ++ v ∷ rest)) ≡ Err e
  unfolding each
  each_stop [] _ _ _ _ so_far here = rw here refl
  each_stop (w ∷ vs) rest v _ e so_far here = let p = each_parts w vs _ so_far in rw (p.2, each_stop vs rest v p.1 e p.3 here) refl

  -- the first item that is refused decides, unless memory ran out
  pub each_refused : (vs : List Value) (i : ℕ) (v : Value) (xs : List A) (e : MetaRefusal) → i < length vs → v ≡ get_or vs i v → each read (items_view (take i vs)) ≡ Ok xs → (e ≡ NoMemory) ⊎ (read (view v) ≡ Err e) → (e ≡ NoMemory) ⊎ (each read (items_view vs) ≡ Err e)
  each_refused _ _ _ _ _ lt at so_far (inl memory) = inl memory
  each_refused vs i v xs e lt at so_far (inr here) = inr (ap (λ ws. each read (items_view ws)) (split_place vs i v lt at) ∙ each_stop _ _ v xs e so_far here)

-- ---- writing

module _ {A : Type 0} (one : A → Data) where
  pub written_none : items_view [] ≡ items_value one []
  unfolding items_value
  written_none = refl

  -- one item more at the end
  pub written_more : (vs : List Value) (xs : List A) (v : Value) (x : A) → items_view vs ≡ items_value one xs → view v ≡ one x → items_view (vs ++ v ∷ []) ≡ items_value one (xs ++ x ∷ [])
  unfolding items_value
  written_more [] [] _ _ so_far here = rw here refl
  written_more (w ∷ vs) (y ∷ ys) v x so_far here =
      let first : view w ≡ one y = cc in
      let others : items_view vs ≡ items_value one ys = cc in
      rw (first, written_more vs ys v x others here) refl
  written_more _ _ _ _ so_far here = absurd cc

  -- where each item reads as it was, so does the list
  pub each_again : (read : Data → Read A) (xs : List A) → All (λ x. read (one x) ≡ Ok x) xs → each read (items_value one xs) ≡ Ok xs
  unfolding each items_value
  each_again _ [] again = refl
  each_again read (x ∷ xs) again = rw (again 0 x (omega arith), each_again read xs (λ k d lt. again (suc k) d (omega arith))) refl
