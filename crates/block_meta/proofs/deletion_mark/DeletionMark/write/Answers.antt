use Rattle.std.proofs.Common.{◌∙◌}
use Rattle.block_meta.specs.MetaFields.{mark_fields_of}
use Rattle.block_meta.specs.MetaValue.{mark_text}
use Rattle.block_meta.proofs.FoundTexts.{mark_text_found}
use Rattle.block_meta.proofs.Plain.{mark_plain}
use Rattle.block_meta.proofs.Texts.{written, mark_reads}
use Rattle.block_meta.proofs.deletion_mark.DeletionMark.write.Goals as goal

pub returns : goal.returns
unfolding mark_text
returns c =
    let m = mark_fields_of c.args.self.now in
    let value = c.in_ok-value.ensures in
    let made = c.in_ok-to_vec.ensures in
    let text = written _ _ _ value.value (mark_plain m) made.text in
    let again = mark_reads _ _ m value.value text made.utf8 made.reads_back value.again in
    record { text = c.from_vec.ensures ∙ text; again = again; lawful = (mark_text_found _).holds m again }
