-- The section "Proved examples": M1 to M13, one table, one statement.
use Rattle.std.specs.Prelude.{ℕ, ◌-◌, ◌^◌, ◌≡◌, refl, List, [], ◌∷◌, ◌++◌}
use Rattle.errors.specs.Refusal.{Outcome, done}
use Rattle.errors.proofs.Compute.{compute as errors}
use Rattle.blocks.specs.Name.{Name, ascii}
use Rattle.blocks.proofs.Compute.{compute as blocks}
use Rattle.expr.proofs.Compute.{compute as expr}
use Rattle.resolved.proofs.Compute.{compute as resolved}
use Rattle.ir.specs.Ir.{IrNode, SwitchCases, DefaultNode, TypeIr, default_metadata}
use Rattle.ir.proofs.Compute.{compute as ir}
use Rattle.builder.specs.Names.{canonical_name, normalize_path, alternate_owner_aliases}
use Rattle.builder.proofs.Compute.{compute as builder}
use Rattle.interpreter.specs.Arithmetic.{Result, value, fault, bits, align_up, checked_sub, checked_left_shift, checked_right_shift}
use Rattle.interpreter.specs.Validate.{validate_type}
use Rattle.interpreter.proofs.Compute.{compute as interpreter}
use Rattle.lengths_definition.specs.Lengths.{digits, nearest, fill, line, stopped, next_block, run_length, answer_lines, block_lines, run_lines, set_lines, input_lines, lengths}

pub data Entry : Type 0 where
  number : Result → Entry
  count : Outcome ℕ → Entry
  name : Name → Entry
  names : List Name → Entry
  lines : List ℕ → Entry

-- ---- M8: a switch whose two cases have the tag 5

abbrev constant : ℕ → IrNode
constant v = IrNode.Const 0 default_metadata v

abbrev twice : List TypeIr
twice = record {
  type_name = ascii "T";
  alignment = 1;
  root = IrNode.Switch 0 default_metadata (ascii "t") (SwitchCases.case 5 (constant 1) [] (SwitchCases.case 5 (constant 2) [] SwitchCases.no_case)) DefaultNode.no_default;
  parameters = [];
} ∷ []

-- ---- M12

abbrev alias : Name → Name → List Name
alias owner path = alternate_owner_aliases path (normalize_path owner path)

-- ---- M13: "Trip: variable struct, alignment 1, owner `legs` with path `n`; field `n` one byte at 0; field `legs` of 4-byte
-- elements, alignment 1, size `n`."
abbrev pub trip_set : List ℕ
trip_set =
    201 ∷ 0 ∷ 0 ∷ 0 ∷ 36 ∷ 0 ∷ 1 ∷ 0 ∷ 193 ∷ 0 ∷ 0 ∷ 0 ∷ 2 ∷ 0 ∷ 4 ∷ 0 ∷ 84 ∷ 114 ∷ 105 ∷ 112 ∷ 1 ∷ 1 ∷ 0 ∷ 0 ∷ 0 ∷
    0 ∷ 0 ∷ 0 ∷ 0 ∷ 21 ∷ 0 ∷ 0 ∷ 0 ∷ 32 ∷ 0 ∷ 1 ∷ 0 ∷ 13 ∷ 0 ∷ 0 ∷ 0 ∷ 37 ∷ 0 ∷ 4 ∷ 0 ∷ 108 ∷ 101 ∷ 103 ∷ 115 ∷ 1 ∷
    0 ∷ 1 ∷ 0 ∷ 110 ∷ 2 ∷ 0 ∷ 49 ∷ 0 ∷ 0 ∷ 0 ∷ 33 ∷ 0 ∷ 1 ∷ 0 ∷ 110 ∷ 1 ∷ 0 ∷ 0 ∷ 0 ∷ 0 ∷ 0 ∷ 0 ∷ 0 ∷ 0 ∷ 31 ∷ 0 ∷ 0 ∷
    0 ∷ 1 ∷ 0 ∷ 2 ∷ 0 ∷ 117 ∷ 56 ∷ 0 ∷ 1 ∷ 0 ∷ 0 ∷ 0 ∷ 0 ∷ 0 ∷ 0 ∷ 0 ∷ 1 ∷ 0 ∷ 0 ∷ 0 ∷ 0 ∷ 0 ∷ 0 ∷ 0 ∷ 4 ∷ 0 ∷ 0 ∷ 0 ∷
    32 ∷ 0 ∷ 0 ∷ 0 ∷ 92 ∷ 0 ∷ 0 ∷ 0 ∷ 33 ∷ 0 ∷ 4 ∷ 0 ∷ 108 ∷ 101 ∷ 103 ∷ 115 ∷ 0 ∷ 79 ∷ 0 ∷ 0 ∷ 0 ∷ 5 ∷ 0 ∷ 10 ∷ 0 ∷
    84 ∷ 114 ∷ 105 ∷ 112 ∷ 58 ∷ 58 ∷ 108 ∷ 101 ∷ 103 ∷ 115 ∷ 1 ∷ 1 ∷ 0 ∷ 0 ∷ 0 ∷ 0 ∷ 0 ∷ 0 ∷ 0 ∷ 4 ∷ 0 ∷ 0 ∷ 0 ∷ 32 ∷
    0 ∷ 0 ∷ 0 ∷ 0 ∷ 32 ∷ 0 ∷ 0 ∷ 0 ∷ 1 ∷ 0 ∷ 3 ∷ 0 ∷ 108 ∷ 101 ∷ 103 ∷ 0 ∷ 4 ∷ 0 ∷ 0 ∷ 0 ∷ 0 ∷ 0 ∷ 0 ∷ 0 ∷ 1 ∷ 0 ∷ 0 ∷
    0 ∷ 0 ∷ 0 ∷ 0 ∷ 0 ∷ 4 ∷ 0 ∷ 0 ∷ 0 ∷ 32 ∷ 0 ∷ 0 ∷ 0 ∷ 7 ∷ 0 ∷ 0 ∷ 0 ∷ 65 ∷ 0 ∷ 1 ∷ 0 ∷ 1 ∷ 0 ∷ 110 ∷ []

-- "Runs: legs.n 3, length 13; 0, 8; 3, 12; no values, 13."
abbrev pub run_3_13 : List ℕ
run_3_13 =
    40 ∷ 0 ∷ 0 ∷ 0 ∷ 193 ∷ 0 ∷ 4 ∷ 0 ∷ 84 ∷ 114 ∷ 105 ∷ 112 ∷ 13 ∷ 0 ∷ 0 ∷ 0 ∷ 0 ∷ 0 ∷ 0 ∷ 0 ∷ 20 ∷ 0 ∷ 0 ∷ 0 ∷ 192 ∷
    0 ∷ 1 ∷ 0 ∷ 6 ∷ 0 ∷ 108 ∷ 101 ∷ 103 ∷ 115 ∷ 46 ∷ 110 ∷ 3 ∷ 0 ∷ 0 ∷ 0 ∷ 0 ∷ 0 ∷ 0 ∷ 0 ∷ []

abbrev pub run_0_8 : List ℕ
run_0_8 =
    40 ∷ 0 ∷ 0 ∷ 0 ∷ 193 ∷ 0 ∷ 4 ∷ 0 ∷ 84 ∷ 114 ∷ 105 ∷ 112 ∷ 8 ∷ 0 ∷ 0 ∷ 0 ∷ 0 ∷ 0 ∷ 0 ∷ 0 ∷ 20 ∷ 0 ∷ 0 ∷ 0 ∷ 192 ∷
    0 ∷ 1 ∷ 0 ∷ 6 ∷ 0 ∷ 108 ∷ 101 ∷ 103 ∷ 115 ∷ 46 ∷ 110 ∷ 0 ∷ 0 ∷ 0 ∷ 0 ∷ 0 ∷ 0 ∷ 0 ∷ 0 ∷ []

abbrev pub run_3_12 : List ℕ
run_3_12 =
    40 ∷ 0 ∷ 0 ∷ 0 ∷ 193 ∷ 0 ∷ 4 ∷ 0 ∷ 84 ∷ 114 ∷ 105 ∷ 112 ∷ 12 ∷ 0 ∷ 0 ∷ 0 ∷ 0 ∷ 0 ∷ 0 ∷ 0 ∷ 20 ∷ 0 ∷ 0 ∷ 0 ∷ 192 ∷
    0 ∷ 1 ∷ 0 ∷ 6 ∷ 0 ∷ 108 ∷ 101 ∷ 103 ∷ 115 ∷ 46 ∷ 110 ∷ 3 ∷ 0 ∷ 0 ∷ 0 ∷ 0 ∷ 0 ∷ 0 ∷ 0 ∷ []

abbrev pub run_none_13 : List ℕ
run_none_13 =
    24 ∷ 0 ∷ 0 ∷ 0 ∷ 193 ∷ 0 ∷ 4 ∷ 0 ∷ 84 ∷ 114 ∷ 105 ∷ 112 ∷ 13 ∷ 0 ∷ 0 ∷ 0 ∷ 0 ∷ 0 ∷ 0 ∷ 0 ∷ 4 ∷ 0 ∷ 0 ∷ 0 ∷ 192 ∷
    0 ∷ 0 ∷ 0 ∷ []

-- ---- the table

pub answers : List Entry
answers =
    number (align_up bits 7 0) ∷ number (align_up bits 7 1) ∷
    number (align_up bits 9 8) ∷ number (align_up bits 8 8) ∷
    number (align_up bits (2 ^ 64 - 1) 8) ∷
    number (align_up bits (2 ^ 64 - 8) 8) ∷
    number (checked_sub 3 4) ∷ number (checked_sub 4 4) ∷
    number (checked_left_shift bits 1 63) ∷ number (checked_left_shift bits 1 64) ∷ number (checked_left_shift bits 1 128) ∷ number (checked_left_shift bits 0 127) ∷
    number (checked_right_shift 5 64) ∷ number (checked_right_shift 5 128) ∷
    count (validate_type twice (ascii "T") 100 (record { name = ascii "t"; value = 5 } ∷ [])) ∷
    name (canonical_name (ascii "a") (ascii "a.b")) ∷ name (normalize_path (ascii "a") (ascii "a.b")) ∷
    name (canonical_name (ascii "a") (ascii "ab")) ∷ name (normalize_path (ascii "a") (ascii "ab")) ∷
    name (canonical_name (ascii "a") (ascii "a")) ∷ name (normalize_path (ascii "a") (ascii "a")) ∷
    names (alias (ascii "o") (ascii "p::q.r")) ∷
    lines (lengths (trip_set ++ (run_3_13 ++ (run_0_8 ++ (run_3_12 ++ run_none_13))))) ∷
    []

pub expected : List Entry
expected =
    -- M1
    number (value 7) ∷ number (value 7) ∷
    -- M2
    number (value 16) ∷ number (value 8) ∷
    -- M3
    number (fault 26) ∷
    -- M4
    number (value (2 ^ 64 - 8)) ∷
    -- M5
    number (fault 23) ∷ number (value 0) ∷
    -- M6
    number (value (2 ^ 63)) ∷ number (fault 26) ∷ number (fault 23) ∷ number (value 0) ∷
    -- M7
    number (value 0) ∷ number (fault 23) ∷
    -- M8
    count (done 1) ∷
    -- M9
    name (ascii "a.b") ∷ name (ascii "b") ∷
    -- M10
    name (ascii "a.ab") ∷ name (ascii "ab") ∷
    -- M11
    name (ascii "a") ∷ name (ascii "") ∷
    -- M12
    names (ascii "q.r" ∷ []) ∷
    -- M13
    lines (ascii "0 0 13 100\n1 0 1 12\n2 25 13 0\n3 21 0 0\n") ∷
    []

pub table : answers ≡ expected
unfolding answers expected errors blocks expr resolved ir builder interpreter digits nearest fill line stopped next_block run_length answer_lines block_lines run_lines set_lines input_lines lengths
table = refl

-- "1 byte of 8 is 12, 3 of 8 is 38."
pub halves : (fill 1 8 ≡ 12) × (fill 3 8 ≡ 38)
unfolding nearest fill
halves = (refl, refl)
