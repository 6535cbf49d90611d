use Rattle.std.proofs.Common.{◌≡◌, ◌++◌, length, subst}
use Rattle.std.specs.Prelude.{OnOk}
use Rattle.index_parts.specs.Framed.{IsSection, section_text}
use Rattle.std.proofs.lemmas.Result.{on_ok_weaker}
use Rattle.index_writing.proofs.Offsets.{offsets_few, offsets_stand, lent_content}
use Rattle.index_writing.proofs.list_writing.write_label_offsets.Goals as goal

pub offsets_content-requires : goal.offsets_content-requires
offsets_content-requires c = rw c.members.ensures (offsets_few _ _ c.requires.as_many c.requires.size)

pub returns-clause-ok : goal.returns-clause-ok
returns-clause-ok c =
    let same = lent_content _ _ _ _ _ _ c.as_slice.ensures.value c.in_ok-content.ensures.ok c.members.ensures c.members-2.ensures c.requires.as_many in
    subst (λ l. OnOk c.append_section.result (c.append_section.new.out.items ≡ c.args.out.now.items ++ section_text l)) same c.append_section.ensures.ok

pub returns-clause-stands : goal.returns-clause-stands
returns-clause-stands c = λ after.
    let same = lent_content _ _ _ _ _ _ c.as_slice.ensures.value c.in_ok-content.ensures.ok c.members.ensures c.members-2.ensures c.requires.as_many in
    on_ok_weaker c.append_section.result (λ section. offsets_stand (c.append_section.new.out.items ++ after) (length c.args.out.now.items) c.args.names.now c.args.offsets.now c.requires.size (rw (c.members.ensures, c.members-2.ensures) at c.in_ok-content.ensures.fit) (subst (IsSection (c.append_section.new.out.items ++ after) (length c.args.out.now.items)) same section)) (c.append_section.ensures.stands after)
