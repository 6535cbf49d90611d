use Rattle.std.proofs.Common.{refl, sym, subst}
use Rattle.std.specs.Prelude.{ℕ, Option, Some, None, option_map}
use Rattle.bucket_core.specs.MemoryBucket.{bucket_told}
use Rattle.bucket_core.specs.declared.memory_bucket.MemoryBucket.{MemoryBucket}
use Rattle.run_notes.specs.declared.run_note.RunNote.{RunNote}
use Rattle.call_verdicts.specs.Noted.{met}
use Rattle.call_verdicts.specs.Outside.{site_call, outside}
use Rattle.call_verdicts.specs.Verdicts.{saying_to}
use Rattle.call_verdicts.specs.Words.{number_word, serial_names}
use Rattle.call_verdicts.specs.declared.run.Run.{Run}
use Rattle.call_verdicts.proofs.Noted.{full_said}
use Rattle.call_verdicts.proofs.Unfailed.{short_of}
use Rattle.replay_cli.specs.Promises.{RunsDay, ServesTool, call_of}
use Rattle.replay_cli.specs.Ways.{in_line}
use Rattle.replay_cli.proofs.DayCalls.{if_none, unfailed_alone}
use Rattle.replay_cli.proofs.Served.{served}
use Rattle.replay_cli.proofs.tool.run_tool.Goals as goal

pub returns-in-None : goal.returns-in-None
returns-in-None g c =
    let o = outside (g.R.Source.told c.args.script.now) (g.R.Source.told c.come_to.new.script) (site_call (g.S.Site.told c.args.site.now) (g.S.Site.told c.come_to.new.site) g.S.Store.Bucket.told g.S.Files.Shelf.told) in
    let saying = saying_to (g.K.Sink.told c.args.out.now) (g.K.Sink.told c.into_run.new.out) in
    subst (λ (n : Option ℕ). ServesTool n (serial_names c.args.words.now) (call_of o saying c.into_run.result)) c.in-None.ensures.number
    (served in_line (serial_names c.args.words.now) o c.come_to.result saying c.into_run.ensures.0 c.into_run.result c.come_to.ensures c.into_run.ensures.1 c.into_run.ensures.2)

-- the generated day
pub returns-in-Some : goal.returns-in-Some
returns-in-Some g c =
    let store = g.S.Store.Bucket.told in
    let site = g.S.Site.told c.args.site.now in
    let source = g.R.Source.told c.args.script.now in
    let o = outside source source (site_call site site store g.S.Files.Shelf.told) in
    let saying = saying_to (g.K.Sink.told c.args.out.now) (g.K.Sink.told c.into_run-run.new.out) in
    let ended = c.run_day-ended.result.0 in
    let day = c.run_day-ended.result.1 in
    let is = c.run_day-ended.ensures in
    let said = c.into_run-run.ensures in
    subst (λ (n : Option ℕ). ServesTool n (serial_names c.args.words.now) (call_of o saying (record c.into_run-run.result { day = day }))) c.in-Some.ensures.number
    (subst (λ (r : Run _ _). RunsDay c.in-Some.number (call_of o saying (record r { day = day }))) (sym said.2) (record {
      verdict = ended.verdict;
      status = said.0;
      done = record {
        run = is.came;
        unread = refl;
        unasked = (record { handed = refl; next = refl }, record { handed = refl; next = refl });
        short = short_of ended.verdict _ (refl, refl, unfailed_alone store 0 ended.journal ended.store is.store, if_none ended.shelf _ is.shelf);
      };
      said = said.1;
      number_is = refl;
      noted = is.noted;
      full = full_said met bucket_told ended.verdict saying said.0 ended.journal (option_map (λ (n : RunNote MemoryBucket). n.world.value.bucket) day) day is.noted said.1;
      no_store = is.store;
      no_shelf = is.shelf;
      no_note = is.note;
    }))
