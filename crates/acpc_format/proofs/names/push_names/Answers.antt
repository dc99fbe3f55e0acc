-- One more player.
use Rattle.std.proofs.Common.{ℕ, List, Option, IfSome, IsUtf8, ◌+◌, ◌++◌, ◌∙◌, ap, subst}
use Rattle.acpc_format.specs.Names.{name_or_default, name_text}
use Rattle.acpc_format.proofs.SeatTexts.{text_more, texts_more}
use Rattle.acpc_format.proofs.names.push_names.Goals as goal

pub loop-index-preserved : goal.loop-index-preserved
loop-index-preserved c = record {
  written = text_more (name_text c.args.notes.now) c.loop-index.index c.args.out.now.items c.loop-index.out.items c.push_bar.new.out.items c.push_name.new.out.items
      c.loop-index.invariant.written c.in_ok-push_bar.ensures
      (c.in_ok-push_name.ensures.written ∙ ap (λ (name : Option (List ℕ)). c.push_bar.new.out.items ++ name_or_default (c.loop-index.index + 1) name) c.name_of.ensures);
  texts = texts_more c.args.notes.now c.loop-index.index c.loop-index.invariant.texts (subst (λ (name : Option (List ℕ)). IfSome name IsUtf8) c.name_of.ensures c.push_name.ensures.text);
}
