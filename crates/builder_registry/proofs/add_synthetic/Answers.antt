-- Where the key is not found, the word of the made parameter is entered, and stands last.
use native.Mathlib.Omega.{arith}
use Rattle.answers.proofs.Laws.{hands}
use Rattle.builder_registry.proofs.Changes.{synthetic_at, synthetic_last, synthetic_has, synthetic_stop, synthetic_more}
use Rattle.builder_registry.proofs.Index.{sought_at, marked_made}
use Rattle.builder_registry.proofs.add_synthetic.Goals as goal

pub place-requires : goal.place-requires
place-requires c = (c.requires.0, sought_at c.mark-mark.ensures c.mark_of-owner_mark.ensures c.held_at-o.ensures.result_value)

pub returns-in-Some-clause-tags : goal.returns-in-Some-clause-tags
returns-in-Some-clause-tags c = synthetic_has _ _ _ _ _ (omega (arith, c.requires.0)) _ _ c.held_at-o.ensures.result_value c.path.ensures c.normalize_path-key.ensures c.place.ensures.value c.in-Some.is c.requires.0.index

pub returns-in-Some-clause-at_value : goal.returns-in-Some-clause-at_value
returns-in-Some-clause-at_value c = synthetic_at _ _ _ _ _ (omega (arith, c.requires.0)) _ _ c.held_at-o.ensures.result_value c.path.ensures c.normalize_path-key.ensures c.place.ensures.value c.in-Some.is

pub enter-requires : goal.enter-requires
enter-requires c = (
  c.requires.0,
  marked_made _ _ c.args.made _ c.made_word.ensures c.held_at-o.ensures.result_value c.path.ensures c.mark_of-owner_mark.ensures
      c.normalize_path-key.ensures c.mark-mark.ensures,
)

pub returns-in_err-count-clause-tags : goal.returns-in_err-count-clause-tags
returns-in_err-count-clause-tags c = hands _ c.from_residual.ensures.1
    (synthetic_stop _ _ _ _ _ (omega (arith, c.requires.0)) _ _ c.held_at-o.ensures.result_value c.path.ensures c.normalize_path-key.ensures c.place.ensures.value c.in_default.is _ c.made_word.ensures c.in_err-count.ensures.kept)

pub returns-clause-tags : goal.returns-clause-tags
returns-clause-tags c = synthetic_more _ _ _ _ _ (omega (arith, c.requires.0)) _ _ c.held_at-o.ensures.result_value c.path.ensures c.normalize_path-key.ensures c.place.ensures.value c.in_default.is _ c.made_word.ensures
    c.in_ok-count.ensures.kept c.in_ok-count.ensures.count_value.0 c.in_ok-count.ensures.count_value.1

pub returns-clause-at_value : goal.returns-clause-at_value
returns-clause-at_value c = synthetic_last _ _ _ _ _ (omega (arith, c.requires.0)) _ _ c.held_at-o.ensures.result_value c.path.ensures c.normalize_path-key.ensures c.place.ensures.value c.in_default.is
