-- An alias that is empty, or a key of an entry before, is left out.
use native.Mathlib.Omega.{arith}
use mathlib.Core.Path.{◌∙◌, ap, sym}
use Rattle.builder_registry.specs.Words.{owner_mark}
use Rattle.builder_registry.proofs.Index.{sought_at, alias_is, alias_made, alias_none, alias_known, alias_new}
use Rattle.builder_registry.proofs.Keys.{held_of}
use Rattle.builder_registry.proofs.alias_mark.Goals as goal

pub returns-then-is_some : goal.returns-then-is_some
returns-then-is_some c = alias_made _ _ _ _ c.made_of.ensures (sym c.if-is_some.ensures)

pub returns-then-a-eq0 : goal.returns-then-a-eq0
returns-then-a-eq0 c = let owner = held_of c.args.s.now c.held_at-o.ensures.result_value c.owner_at-at.ensures.value in
    let found = alias_is c.args.s.now c.args.w c.made_of.ensures (sym c.if-is_some.ensures) owner c.path_of-p.ensures.result_value
    c.normalize_path.ensures c.alias-a.ensures in
    alias_none _ _ _ _ found c.if-a-eq0.true

pub place-requires : goal.place-requires
place-requires c = (
  c.requires.0,
  sought_at c.mark-mark.ensures
      (c.requires.1 ∙ ap owner_mark
      (sym (held_of _ c.held_at-o.ensures.result_value c.owner_at-at.ensures.value)))
      c.held_at-o.ensures.result_value,
)

pub returns-then-is_some-2 : goal.returns-then-is_some-2
returns-then-is_some-2 c = let owner = held_of c.args.s.now c.held_at-o.ensures.result_value c.owner_at-at.ensures.value in
    let found = alias_is c.args.s.now c.args.w c.made_of.ensures (sym c.if-is_some.ensures) owner c.path_of-p.ensures.result_value
    c.normalize_path.ensures c.alias-a.ensures in
    alias_known _ _ _ _ (omega (arith, c.requires.0)) _ owner found _ c.place.ensures.value (sym c.if-is_some-2.ensures)

pub returns : goal.returns
returns c = let owner = held_of c.args.s.now c.held_at-o.ensures.result_value c.owner_at-at.ensures.value in
    let found = alias_is c.args.s.now c.args.w c.made_of.ensures (sym c.if-is_some.ensures) owner c.path_of-p.ensures.result_value
    c.normalize_path.ensures c.alias-a.ensures in
    alias_new _ _ _ _ (omega (arith, c.requires.0)) _ owner found _ c.if-a-eq0.false c.place.ensures.value (sym c.if-is_some-2.ensures)
    c.mark-mark.ensures c.requires.1
