-- `items::source::Source::value_at` meets its contract, map by map. Assumes nothing.
use mathlib.Core.Logic.{inl, inr}
use native.Mathlib.Omega.{arith}
use Rattle.std.proofs.Common.{◌≡◌, ◌∙◌, sym, length}
use Rattle.tables.specs.Delimiters.{delimiters}
use Rattle.tables.proofs.Delimiting.{buckets_le}
use Rattle.splits.specs.Splits.{handle_split}
use Rattle.items.specs.Items.{values_of}
use Rattle.items.proofs.Values.{key_value_is, number_is, offset_is}
use Rattle.items.proofs.Handling.{delimiters_few, split_is, split_beside_told, split_small}
use Rattle.items.proofs.Sources.{known_in, asked_keys, asked_prefixes, asked_handles}
use Rattle.items.proofs.source.Source.value_at.Goals as goal
use Rattle.items.proofs.source.Source.value_at.Goals.{After-split_at}

pub key_value-requires : goal.key_value-requires
key_value-requires c = asked_keys (inl c.in-Keys.is) (known_in c.args.self.now, c.requires)

pub overflow_cast-result : goal.overflow_cast-result
overflow_cast-result c =
    let k = asked_prefixes c.in-Prefixes.is (known_in c.args.self.now, c.requires) in
    omega (arith, buckets_le (length c.args.self.now.rows.keys.now) c.args.self.now.rows.b (omega arith))

split : (c : After-split_at) → c.split_at.result ≡ handle_split (delimiters c.args.self.now.rows.b c.args.self.now.rows.keys.now) c.args.i
split c =
    let a = c.args.self.now in
    let k = asked_handles c.in-Handles.is (known_in c.args.self.now, c.requires) in
    c.split_at.ensures ∙ split_beside_told a.rows.b a.rows.keys.now a.left.now a.right.now k.0 c.args.i k.1

pub split_at-requires : goal.split_at-requires
split_at-requires c =
    let a = c.args.self.now in
    let k = asked_handles c.in-Handles.is (known_in c.args.self.now, c.requires) in
    let few = delimiters_few a.rows.b a.rows.keys.now a.left.now a.right.now k.0 in
    (omega arith, omega arith)

pub overflow_cast-result-in-Handles : goal.overflow_cast-result-in-Handles
overflow_cast-result-in-Handles c =
    let a = c.args.self.now in
    let k = asked_handles c.in-Handles.is (known_in c.args.self.now, c.requires) in
    omega (arith, split c, split_small a.rows.b a.rows.keys.now a.left.now a.right.now k.0 c.args.i k.1)

pub returns-in-Keys : goal.returns-in-Keys
unfolding values_of
returns-in-Keys c =
    let a = c.args.self.now in
    rw c.in-Keys.is
    (c.key_value.ensures ∙ sym (key_value_is a.rows.b a.rows.keys.now c.args.i (asked_keys (inl c.in-Keys.is) (known_in c.args.self.now, c.requires)).1))

pub returns-in-Prefixes : goal.returns-in-Prefixes
unfolding values_of
returns-in-Prefixes c =
    let a = c.args.self.now in
    rw c.in-Prefixes.is (sym (number_is a.rows.b a.rows.keys.now c.args.i (asked_prefixes c.in-Prefixes.is (known_in c.args.self.now, c.requires)).1))

pub returns-in-Handles : goal.returns-in-Handles
unfolding values_of
returns-in-Handles c =
    let a = c.args.self.now in
    rw c.in-Handles.is
    (split c ∙ sym (split_is (delimiters a.rows.b a.rows.keys.now) c.args.i (asked_handles c.in-Handles.is (known_in c.args.self.now, c.requires)).1))

pub returns-in-Offsets : goal.returns-in-Offsets
unfolding values_of
returns-in-Offsets c =
    let a = c.args.self.now in
    rw c.in-Offsets.is
    (c.offset_of.ensures.0 ∙ sym (offset_is a.rows.b a.rows.keys.now c.args.i (asked_keys (inr c.in-Offsets.is) (known_in c.args.self.now, c.requires)).1))
