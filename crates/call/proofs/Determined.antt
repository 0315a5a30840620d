-- Two fillings of the call cells are alike. Assumes nothing.
use mathlib.Core.List.{List}
use Prim.Native.Nat.{ℕ}
use Rattle.items.specs.Items.{key_values, prefix_items, bucket_numbers}
use Rattle.maps.proofs.Determined.{fillings_alike}
use Rattle.call.specs.Build.{CallFilled}
use Rattle.call.specs.Determined.{CallAlike}

pub calls_alike : (keys : List ℕ) (b seed₁ seed₂ : ℕ) (cells cells₁ cells₂ : List ℕ)
    → CallFilled keys b seed₁ seed₂ cells cells₁
    → CallFilled keys b seed₁ seed₂ cells cells₂ → CallAlike keys b seed₁ seed₂ cells₁ cells₂
calls_alike keys b seed₁ seed₂ cells cells₁ cells₂ F G = record {
  map₁ = fillings_alike seed₁ keys (key_values b keys) _ _ _ F.map₁ G.map₁;
  map₂ = fillings_alike seed₂ (prefix_items b keys) (bucket_numbers b keys) _ _ _ F.map₂ G.map₂;
}
