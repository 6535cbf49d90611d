-- A loop over a count: so many members one after another, each read by the same function.
--
-- A loop of the code keeps `members_at read i start ≡ Ok (what was read so far, what is left)`, as in
--
--     #[tactic(auto, using(base::proofs::Counted::loop_start))]
--     fn names_of(alloc: Global, count: u32, bytes: &[u8]) -> Result<(Vec<Name>, &[u8]), Refusal>
--         ensures { Gives Refusal.NoMemory (λ x. (views x.0.items, x.1.now)) result (names_at count bytes.now) }
--     {
--         let mut names = Vec::new(alloc);
--         let mut rest = bytes;
--         for _ in 0..count {
--             let (name, after) = name_of(alloc, rest)?;
--             names.push(name)?;
--             rest = after;
--         }
--         Ok((names, rest))
--     }
--
--     abbrev pub names_at : ℕ → List ℕ → Result (List Name × List ℕ) Refusal
--     names_at count bytes = members_at name_at count bytes
--
--     invariant-loop l = names_at l.counter l.bytes ≡ Ok (views l.names.items, l.rest)
--
-- and leaves two goals, which `loop_exit` and `loop_step` of `proofs/Counted.antt` answer:
--
--     returns-in_err-name c =
--         loop_exit name_at _ _ c.from_residual.result c.loop.counter c.args.count c.args.bytes.now c.loop.rest.now
--         (views c.loop.names.items) c.in_err-name.field-0.0 c.loop.invariant c.from_residual.ensures.1
--         c.in_err-name.ensures c.loop-test.true
--     loop-preserved c = search (rules, loop_step, map_push)
use Rattle.std.specs.Prelude.{ℕ, zero, suc, List, [], ◌∷◌, Result, Ok}
use Rattle.base.specs.Reading.{◌>>=◌}

-- n members, and what is left after the last; the first refusal is that of the whole
unfoldable pub members_at : {A S E : Type 0} → (S → Result (A × S) E) → ℕ → S → Result (List A × S) E
members_at read zero s = Ok ([], s)
members_at read (suc n) s = do
  first ← read s
  others ← members_at read n first.1
  Ok (first.0 ∷ others.0, others.1)
