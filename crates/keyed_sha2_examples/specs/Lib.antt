pub mod Digests
pub mod CubeRoots
