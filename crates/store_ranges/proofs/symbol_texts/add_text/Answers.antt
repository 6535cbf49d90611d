use Rattle.std.specs.String.{string_bytes}
use Rattle.std.proofs.Common.{◌∙◌}
use Rattle.store_ranges.proofs.TextsKept.{are_pushed, texts_pushed}
use Rattle.store_ranges.proofs.symbol_texts.add_text.Goals as goal

pub returns-clause-texts : goal.returns-clause-texts
returns-clause-texts c =
    are_pushed (string_bytes c.args.all.now) c.args.text.now (string_bytes c.push_str.new.self) c.args.places.now.items c.push.new.self.items (record { start = c.len-start.result; end = c.len.result })
    c.requires c.utf8.text c.in_ok-push_str.ensures.bytes
    (c.len-start.ensures ∙ c.args.all.now.bytes.ok.0) (c.len.ensures ∙ c.push_str.new.self.bytes.ok.0) c.in_ok-push.ensures.items

pub returns-clause-value : goal.returns-clause-value
returns-clause-value c =
    texts_pushed (string_bytes c.args.all.now) c.args.text.now (string_bytes c.push_str.new.self) c.args.places.now.items c.push.new.self.items (record { start = c.len-start.result; end = c.len.result })
    c.requires c.utf8.text c.in_ok-push_str.ensures.bytes
    (c.len-start.ensures ∙ c.args.all.now.bytes.ok.0) (c.len.ensures ∙ c.push_str.new.self.bytes.ok.0) c.in_ok-push.ensures.items
