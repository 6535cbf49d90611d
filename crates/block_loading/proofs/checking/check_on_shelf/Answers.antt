use Rattle.std.proofs.Common.{inl, inr, subst}
use Rattle.block_meta.specs.declared.block_files.BlockFiles.{BlockFiles}
use Rattle.block_loading.specs.Loading.{AreNamed, AreWithinLimit, IsLoaded, StopsAt, StopsOnShelf}
use Rattle.block_loading.specs.LoadedChecks.{EndsCheck, loaded_files, loaded_ulid}
use Rattle.block_loading.specs.declared.loaded_block.LoadedBlock.{LoadedBlock}
use Rattle.block_loading.proofs.Calls.{answered, error_on, not_stopped, passed_on}
use Rattle.block_loading.proofs.AskedBlock.{asked_on, asked_whole}
use Rattle.block_loading.proofs.Ended.{checked_here, ended_as, ended_calm, ended_moved, ended_passed, ended_passes, ended_refused, ended_refuses, ended_said, ended_segments}
use Rattle.block_loading.proofs.checking.check_on_shelf.Goals as goal

-- ---- it was not loaded

pub returns-in_err-block-clause-passes : goal.returns-in_err-block-clause-passes
returns-in_err-block-clause-passes g c = λ told h files list is. inr (passed_on c.from_residual.result c.in_err-block.field-0.0 c.from_residual.ensures.1 (c.in_err-block.ensures.only told h files is.loaded))

pub returns-in_err-block-clause-refuses : goal.returns-in_err-block-clause-refuses
returns-in_err-block-clause-refuses g c = λ told h refusal is.
    elim is [
      | inl load ↦ error_on c.from_residual.result c.in_err-block.field-0.0 refusal c.from_residual.ensures.1 (c.in_err-block.ensures.refuses told h refusal load)
      | inr (files, loaded, refuses) ↦ inr (passed_on c.from_residual.result c.in_err-block.field-0.0 c.from_residual.ensures.1 (c.in_err-block.ensures.only told h files loaded))
    ]

pub returns-in_err-block-clause-asks : goal.returns-in_err-block-clause-asks
returns-in_err-block-clause-asks g c = asked_on g.F.Shelf.told _ _ _ _ c.args.ulid (StopsAt c.args.ulid) (StopsOnShelf c.args.ulid) c.from_residual.result c.in_err-block.field-0.0 c.from_residual.ensures.1 (λ count refusal stops. inl stops) c.in_err-block.ensures.asks

-- ---- it was loaded, and its check ended so

pub returns-clause-passed : goal.returns-clause-passed
returns-clause-passed g c = ended_passed c.args.ulid (loaded_files c.in_ok-block.block) c.check.result (ended_moved _ _ _ _ c.in_ok-block.ensures.ulid c.check.ensures)

pub returns-clause-within : goal.returns-clause-within
returns-clause-within g c = ended_as c.args.ulid (loaded_files c.in_ok-block.block) AreWithinLimit c.in_ok-block.ensures.within c.check.result (ended_moved _ _ _ _ c.in_ok-block.ensures.ulid c.check.ensures)

pub returns-clause-named : goal.returns-clause-named
returns-clause-named g c = ended_as c.args.ulid (loaded_files c.in_ok-block.block) AreNamed c.in_ok-block.ensures.named c.check.result (ended_moved _ _ _ _ c.in_ok-block.ensures.ulid c.check.ensures)

pub returns-clause-found : goal.returns-clause-found
returns-clause-found g c = λ told h. ended_as c.args.ulid (loaded_files c.in_ok-block.block) (IsLoaded told c.args.ulid) (c.in_ok-block.ensures.found told h) c.check.result (ended_moved _ _ _ _ c.in_ok-block.ensures.ulid c.check.ensures)

pub returns-clause-passes : goal.returns-clause-passes
returns-clause-passes g c = λ told h files list is.
    let same = answered _ (c.in_ok-block.ensures.only told h files is.loaded) in
    let ends = subst (λ (f : BlockFiles). EndsCheck c.args.ulid f c.check.result) same (ended_moved _ _ _ _ c.in_ok-block.ensures.ulid c.check.ensures) in
    ended_passes c.args.ulid files list c.check.result ends is.passes

pub returns-clause-refused : goal.returns-clause-refused
returns-clause-refused g c = λ told h refusal same.
    ended_refused told c.args.ulid (loaded_files c.in_ok-block.block) (c.in_ok-block.ensures.found told h) refusal c.check.result (ended_moved _ _ _ _ c.in_ok-block.ensures.ulid c.check.ensures) same

pub returns-clause-refuses : goal.returns-clause-refuses
returns-clause-refuses g c = λ told h refusal is.
    elim is [
      | inl load ↦ absurd (not_stopped _ refusal (c.in_ok-block.ensures.refuses told h refusal load))
      | inr (files, loaded, refuses) ↦
          let same = answered _ (c.in_ok-block.ensures.only told h files loaded) in
          let ends = subst (λ (f : BlockFiles). EndsCheck c.args.ulid f c.check.result) same (ended_moved _ _ _ _ c.in_ok-block.ensures.ulid c.check.ensures) in
          ended_refuses c.args.ulid files refusal c.check.result ends refuses
    ]

pub returns-clause-asks : goal.returns-clause-asks
returns-clause-asks g c =
    let files = loaded_files c.in_ok-block.block in
    let ends = ended_moved _ _ _ _ c.in_ok-block.ensures.ulid c.check.ensures in
    asked_whole g.F.Shelf.told (λ (block : LoadedBlock). (loaded_files block).segments) _ _ _ c.args.ulid (StopsAt c.args.ulid) (StopsOnShelf c.args.ulid) c.in_ok-block.block c.check.result (ended_segments c.args.ulid files c.check.result ends)
    (λ count whole. ended_said c.args.ulid files (StopsOnShelf c.args.ulid count) c.check.result ends
    (λ refusal why. inr (record { files = files; within = c.in_ok-block.ensures.within; named = c.in_ok-block.ensures.named; count_is = whole; refused = why })))
    (ended_calm c.args.ulid files c.check.result ends) c.in_ok-block.ensures.asks

pub returns-clause-kept : goal.returns-clause-kept
returns-clause-kept g c = checked_here g.F.Shelf.told _ _ (loaded_ulid c.in_ok-block.block) (loaded_files c.in_ok-block.block) c.check.result c.check.ensures c.in_ok-block.ensures.kept
