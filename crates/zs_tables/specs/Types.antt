-- The types of the crates below that callers name.
pub use Rattle.zs_grouped.specs.declared.group_kind.GroupKind.{GroupKind}
pub use Rattle.zs_grouped.specs.declared.group_kind.GroupKind.TheVariants.{Subscribers, Publishers, Queriers}
pub use Rattle.zs_liveliness.specs.declared.liveliness_get.LivelinessGet.{LivelinessGet}
pub use Rattle.zs_liveliness.specs.declared.liveliness_sub.LivelinessSub.{LivelinessSub}
pub use Rattle.zs_liveliness.specs.declared.remote_token.RemoteToken.{RemoteToken}
