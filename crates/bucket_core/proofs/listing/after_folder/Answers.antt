use Rattle.std.proofs.Common.{[], ◌∷◌, sym, ◌∙◌, ap}
use Rattle.std.specs.Option.{option_and_then}
use Rattle.bucket_core.specs.Stored.{text_after}
use Rattle.bucket_core.proofs.listing.after_folder.Goals as goal
use Rattle.bucket_core.proofs.Names.{text_after-both}

pub returns-in-Some : goal.returns-in-Some
returns-in-Some c =
    c.after_slash.ensures ∙ ap (option_and_then (text_after (47 ∷ []))) c.in-Some.ensures
    ∙ sym (text_after-both c.args.within.now (47 ∷ []) c.args.key.now)

pub returns-in-None : goal.returns-in-None
returns-in-None c =
    ap (option_and_then (text_after (47 ∷ []))) c.in-None.ensures
    ∙ sym (text_after-both c.args.within.now (47 ∷ []) c.args.key.now)
