-- `is_listed`: an entry whose name an earlier one has is not listed; of the others those are not that are elements of a jagged array, which is asked only
-- where the type has such an array (`Jagged`). Whatever the answer, the entry is linked in the table.
use mathlib.Core.Bool.{false}
use mathlib.Core.Path.{◌≡◌, sym, ◌∙◌}
use Rattle.resolved.specs.Set.{type_of}
use Rattle.accepted.specs.Accepted.{tree}
use Rattle.builder_parameters.proofs.Listed.{not_first, first_listed}
use Rattle.builder_parameters.proofs.is_listed.Goals as goal
use Rattle.builder_parameters.proofs.is_listed.Goals.{then-listing, else-listing}

pub returns-after-listing : goal.returns-after-listing
returns-after-listing c = record {
  value = λ x. first_listed (type_of (tree x)) c.args.s.now c.args.words.now c.args.i c.is_new-new.ensures c.if-new.true
      (elim c.if-listing.branch [
        | then-listing w ↦ w.result-is ∙ w.is_jagged_element.ensures x
        | else-listing w ↦
            let e : c.if-listing.result ≡ false = cc in e ∙ sym (c.requires.jagged_is.no_element w.if-listing.false x _)
      ]);
  linked = c.link.ensures _ c.requires.marking.linked (sym c.requires.marking.mark_is);
}

pub returns-else-new : goal.returns-else-new
returns-else-new c = record {
  value = λ x. not_first (type_of (tree x)) c.args.s.now c.args.words.now c.args.i c.is_new-new.ensures c.if-new.false;
  linked = c.link.ensures _ c.requires.marking.linked (sym c.requires.marking.mark_is);
}
