use Rattle.std.proofs.Common.{◌≡◌, inr, inl, sym, ◌∙◌, ap, refl, subst}
use Rattle.std.specs.Prelude.{Some, None, is_some, option_map}
use Rattle.call_verdicts.specs.Outside.{Names, names, site_call, outside}
use Rattle.call_verdicts.specs.Words.{block_word, bucket_word, named_by, shelf_word}
use Rattle.call_verdicts.specs.declared.words.Named.{Named}
use Rattle.call_verdicts.proofs.Checks.{back_none, behind_map, handed_none, not_named}
use Rattle.call_verdicts.proofs.BucketAsked.{none_asked}
use Rattle.call_verdicts.specs.Noted.{met}
use Rattle.call_verdicts.proofs.Noted.{checked_tells, without_bucket}
use Rattle.call_verdicts.proofs.Unfailed.{short_map, unfailed_none}
use Rattle.replay_cli.specs.Calls.{Leaves, run_names}
use Rattle.replay_cli.specs.Ways.{in_line}
use Rattle.replay_cli.proofs.Served.{refused, same_names}
use Rattle.replay_cli.proofs.tool.come_to.Goals as goal

-- a run
pub returns-in-Some : goal.returns-in-Some
returns-in-Some g c =
    let o = outside (g.R.Source.told c.args.script.now) (g.R.Source.told c.read_and_run.new.script) (site_call (g.S.Site.told c.args.site.now) (g.S.Site.told c.read_and_run.new.site) g.S.Store.Bucket.told g.S.Files.Shelf.told) in
    subst (λ (n : Names). Leaves in_line o n c.read_and_run.result)
    (same_names (Some c.in-Some.named.bucket.now) (bucket_word c.args.words.now) (named_by c.in-Some.named.shelf.now) (shelf_word c.args.words.now) None (block_word c.args.words.now)
    c.in-Some.ensures.bucket c.in-Some.ensures.shelf c.in-Some.ensures.block) c.read_and_run.ensures

-- the check of a block
pub returns-in-Some-read_check : goal.returns-in-Some-read_check
returns-in-Some-read_check g c =
    let before = g.S.Site.told c.args.site.now in
    let after = g.S.Site.told c.check_block.new.site in
    let store = g.S.Store.Bucket.told in
    let o = outside (g.R.Source.told c.args.script.now) (g.R.Source.told c.args.script.now) (site_call before after store g.S.Files.Shelf.told) in
    let word = named_by c.in-Some-read_check.asked.shelf.now in
    let block = c.in-Some-read_check.asked.block in
    let ended = c.check_block.result in
    let is = c.check_block.ensures in
    subst (λ (n : Names). Leaves in_line o n ended)
    (same_names None (bucket_word c.args.words.now) word (shelf_word c.args.words.now) (Some block) (block_word c.args.words.now)
    (sym c.in-Some-read_check.ensures.run) c.in-Some-read_check.ensures.shelf c.in-Some-read_check.ensures.block) (record {
      cause = (
        inr (inl (
          record { none = not_named None refl; journal = is.journal; unread = refl },
          is.cause,
          behind_map ended.verdict _ _ (λ named. (ap is_some is.store, named)) is.opened,
        )),
        short_map ended.verdict _ _ (λ short. (refl, short.0, unfailed_none store 0 _ _ is.journal, short.1)) is.short,
      );
      handed = handed_none before.buckets after.buckets ended.store is.store is.bucket.handed;
      kept = ap is_some is.journal ∙ sym (ap is_some is.store);
      back = back_none store ended.journal ended.store is.journal is.store;
      untouched = tt;
      closed = λ none. is.bucket;
      asked_bucket = λ never. none_asked store ended.verdict ended.journal ended.store is.journal;
      noted = without_bucket met store ended.verdict ended.journal ended.store ended.note is.note is.journal is.store (checked_tells _ _ _ ended.verdict is.cause);
      shelf = is.shelf;
      asked = is.asked;
    })

-- words that are no form of a call
pub returns-in-None : goal.returns-in-None
returns-in-None g c =
    let none : bucket_word c.args.words.now ≡ None = sym c.read_serial.ensures.bucket ∙ ap (option_map (λ (named : Named). named.bucket.now)) c.in_default.is in
    refused in_line (g.R.Source.told c.args.script.now) (g.S.Site.told c.args.site.now) g.S.Store.Bucket.told g.S.Files.Shelf.told _ _
    (same_names None (bucket_word c.args.words.now) None (shelf_word c.args.words.now) None (block_word c.args.words.now) (sym none) (sym (c.read_check.ensures.none c.in-None.is none)) c.in-None.ensures.block)
    c.without_bucket.ensures.verdict c.without_bucket.ensures.journal c.without_bucket.ensures.store c.without_bucket.ensures.shelf c.without_bucket.ensures.note
