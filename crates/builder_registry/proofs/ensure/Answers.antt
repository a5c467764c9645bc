-- Where the key is not found, the word of the path is entered.
use native.Mathlib.Omega.{arith}
use mathlib.Core.Path.{◌∙◌, ap, sym}
use Rattle.builder_registry.specs.Words.{owner_mark}
use Rattle.builder_registry.proofs.Changes.{ensure_has, ensure_more}
use Rattle.builder_registry.proofs.Index.{sought_at, marked_path}
use Rattle.builder_registry.proofs.ensure.Goals as goal

pub place-requires : goal.place-requires
place-requires c = (
  c.requires.0,
  sought_at c.mark-mark.ensures (c.requires.2 ∙ ap owner_mark (sym c.held_at-o.ensures.result_value)) c.held_at-o.ensures.result_value,
)

pub returns-then-is_some-clause-kept : goal.returns-then-is_some-clause-kept
returns-then-is_some-clause-kept c = ensure_has _ _ _ _ _ (omega (arith, c.requires.0)) _ _ c.held_at-o.ensures.result_value c.held_at-p.ensures.result_value c.normalize_path-key.ensures c.place.ensures.value (sym c.if-is_some.ensures) c.requires.0.index

pub enter-requires : goal.enter-requires
enter-requires c = (
  c.requires.0,
  marked_path c.pack.ensures c.requires.1 c.requires.3 c.held_at-o.ensures.result_value
      c.held_at-p.ensures.result_value c.requires.2 c.normalize_path-key.ensures
      c.mark-mark.ensures,
)

pub returns-clause-kept : goal.returns-clause-kept
returns-clause-kept c = ensure_more _ _ _ _ _ (omega (arith, c.requires.0)) _ _ c.held_at-o.ensures.result_value c.held_at-p.ensures.result_value c.normalize_path-key.ensures c.place.ensures.value c.pack.ensures (sym c.if-is_some.ensures) c.requires.1 c.requires.3
    c.enter.ensures.kept
