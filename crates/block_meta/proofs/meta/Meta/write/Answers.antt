use Rattle.std.proofs.Common.{◌∙◌}
use Rattle.block_meta.specs.MetaFields.{fields_of}
use Rattle.block_meta.specs.MetaValue.{meta_text}
use Rattle.block_meta.proofs.FoundTexts.{meta_text_found}
use Rattle.block_meta.proofs.Plain.{meta_plain}
use Rattle.block_meta.proofs.Texts.{written, meta_reads}
use Rattle.block_meta.proofs.meta.Meta.write.Goals as goal

pub returns : goal.returns
unfolding meta_text
returns c =
    let m = fields_of c.args.self.now in
    let value = c.in_ok-value.ensures in
    let made = c.in_ok-to_vec.ensures in
    let text = written _ _ _ value.value (meta_plain m) made.text in
    let again = meta_reads _ _ m value.value text made.utf8 made.reads_back value.again in
    record { text = c.from_vec.ensures ∙ text; again = again; lawful = (meta_text_found _).holds m again; numbers = value.numbers }
