-- Any two outcomes that the statement of the slim build allows are one, up to the filling of the cells. Assumes
-- nothing.
use mathlib.Core.Path.{sym, ◌∙◌}
use Rattle.tables.specs.Delimiters.{delimiters}
use Rattle.items.specs.Items.{offset_values, handle_items, handle_splits}
use Rattle.maps.proofs.Determined.{fillings_alike}
use Rattle.verdicts.proofs.Determined.{ends_alike}
use Rattle.slim.specs.Determined.{SlimBuildDetermined}
use Rattle.slim.proofs.Jamming.{first_jam_one, jam_not_none}

pub slim_build_determined : SlimBuildDetermined
slim_build_determined keys b seed₁ seed₃ S v S₁ v' S₂ B B' =
    let E = ends_alike (λ m p m' p'. first_jam_one) (λ m p. jam_not_none) v v' B B' in
    let D = delimiters b keys in
    record {
      answer = E.answer;
      refused = E.refused;
      offsets = λ t. let F = E.filled t in
          fillings_alike seed₁ keys (offset_values b keys) S.cells S₁.cells S₂.cells F.0.offsets
          F.1.offsets;
      handles = λ t. let F = E.filled t in
          fillings_alike seed₃ (handle_items D) (handle_splits D) S.handles S₁.handles S₂.handles
          F.0.neighbour.handles F.1.neighbour.handles;
      lefts = E.same (λ T. T.left) (λ T U F G. F.neighbour.left ∙ sym G.neighbour.left);
      rights = E.same (λ T. T.right) (λ T U F G. F.neighbour.right ∙ sym G.neighbour.right);
      works = E.same (λ T. T.work) (λ T U F G. F.work ∙ sym G.work);
      lengths = E.same (λ T. T.lengths) (λ T U F G. F.neighbour.lengths ∙ sym G.neighbour.lengths);
    }
