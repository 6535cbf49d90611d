use Rattle.std.proofs.Common.{Ok, Err, inl, inr, refl}
use Rattle.block_loading.specs.Loading.{StopsAt}
use Rattle.block_loading.proofs.Calls.{answered, error_on, files_read, not_stopped, passed_on, refused_on, says_only, says_refuses}
use Rattle.block_loading.proofs.LoadLaws.{load_found}
use Rattle.block_loading.proofs.AskedBlock.{asked_on, asked_whole}
use Rattle.block_loading.proofs.loaded_block.LoadedBlock.load.Goals as goal

-- ---- it was not loaded

pub returns-in_err-files-clause-only : goal.returns-in_err-files-clause-only
returns-in_err-files-clause-only g c = λ told h files is. inr (passed_on c.from_residual.result c.in_err-files.field-0.0 c.from_residual.ensures.1
    (says_only files_read told c.args.ulid (Err c.in_err-files.field-0.0) files (c.in_err-files.ensures.loaded told h) is))

pub returns-in_err-files-clause-refused : goal.returns-in_err-files-clause-refused
returns-in_err-files-clause-refused g c = λ told h refusal same.
    refused_on told c.args.ulid c.from_residual.result c.in_err-files.field-0.0 refusal c.from_residual.ensures.1 (c.in_err-files.ensures.loaded told h) same

pub returns-in_err-files-clause-refuses : goal.returns-in_err-files-clause-refuses
returns-in_err-files-clause-refuses g c = λ told h refusal is. error_on c.from_residual.result c.in_err-files.field-0.0 refusal c.from_residual.ensures.1
    (says_refuses files_read told c.args.ulid (Err c.in_err-files.field-0.0) refusal (c.in_err-files.ensures.loaded told h) is)

pub returns-in_err-files-clause-asks : goal.returns-in_err-files-clause-asks
returns-in_err-files-clause-asks g c = asked_on g.F.Shelf.told _ _ _ _ c.args.ulid (StopsAt c.args.ulid) (StopsAt c.args.ulid) c.from_residual.result c.in_err-files.field-0.0 c.from_residual.ensures.1 (λ count refusal stops. stops) c.in_err-files.ensures.asks

-- ---- it was loaded

pub returns-clause-found : goal.returns-clause-found
returns-clause-found g c = λ told h. load_found told c.args.ulid c.in_ok-files.files (c.in_ok-files.ensures.loaded told h)

pub returns-clause-only : goal.returns-clause-only
returns-clause-only g c = λ told h files is. inl (answered c.in_ok-files.files
    (says_only files_read told c.args.ulid (Ok c.in_ok-files.files) files (c.in_ok-files.ensures.loaded told h) is))

pub returns-clause-refuses : goal.returns-clause-refuses
returns-clause-refuses g c = λ told h refusal is. absurd (not_stopped c.in_ok-files.files refusal
    (says_refuses files_read told c.args.ulid (Ok c.in_ok-files.files) refusal (c.in_ok-files.ensures.loaded told h) is))

pub returns-clause-asks : goal.returns-clause-asks
returns-clause-asks g c = asked_whole g.F.Shelf.told _ _ _ _ c.args.ulid (StopsAt c.args.ulid) (StopsAt c.args.ulid) _ _ refl (λ count whole. tt) refl c.in_ok-files.ensures.asks
